-- A set made by a test has the cells that pass, and those outside of the shape never do.
use Rattle.sz_cells.proofs.LawsOfSets.{union-has, with_cell-has}
use Rattle.sz_cells.proofs.laws.cells_are_added.Goals as goal

pub returns : goal.returns
returns c = record { union = union-has; cell = with_cell-has }

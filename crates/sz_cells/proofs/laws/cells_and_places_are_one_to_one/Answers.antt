-- A layer and a row in it are the quotient and the remainder of the row.
use Rattle.sz_cells.proofs.Shapes.{cell-has_place, place-has_cell}
use Rattle.sz_cells.proofs.laws.cells_and_places_are_one_to_one.Goals as goal

pub returns : goal.returns
returns c = record { cells = cell-has_place; places = place-has_cell }

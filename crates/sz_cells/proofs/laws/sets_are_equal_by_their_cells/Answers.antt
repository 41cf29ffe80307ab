-- Tests that agree keep the same indexes of the range.
use Rattle.sz_cells.proofs.Sets.{cells_where-ext}
use Rattle.sz_cells.proofs.laws.sets_are_equal_by_their_cells.Goals as goal

pub returns : goal.returns
returns c = cells_where-ext

-- An index stands in a filtered range exactly where its cell passes.
use Rattle.sz_cells.proofs.Sets.{has-cells_where_any}
use Rattle.sz_cells.proofs.laws.sets_are_their_tests.Goals as goal

pub returns : goal.returns
returns c = has-cells_where_any

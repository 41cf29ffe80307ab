-- A row and a column are the quotient and the remainder of the index.
use Rattle.sz_cells.proofs.Sets.{index-below, cell-held, index-cell, cell-index}
use Rattle.sz_cells.proofs.laws.cells_and_indexes_are_one_to_one.Goals as goal

pub returns-clause-cells : goal.returns-clause-cells
returns-clause-cells c = λ e cell held. (index-below e cell held, cell-index e cell held)

pub returns-clause-indexes : goal.returns-clause-indexes
returns-clause-indexes c = λ e k below. (cell-held e k below, index-cell e k)

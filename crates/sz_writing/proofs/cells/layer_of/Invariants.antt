-- The rows so far are those of the cells before the ones that are left.
use Rattle.sz_script.specs.Layers.{is_row, values_of_row}
use Rattle.sz_writing.specs.Written.{row_long}
use Rattle.sz_writing.proofs.Walks.{IsWrittenUpTo}
use Rattle.sz_writing.proofs.cells.layer_of.Given as goal

abbrev pub invariant-loop-row : goal.invariant-loop-row
invariant-loop-row l =
    IsWrittenUpTo (is_row l.width) values_of_row 1 (row_long l.width) l.width l.rows.items l._row l.rest l.cells

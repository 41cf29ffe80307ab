-- No row so far has an asked cell.
use Rattle.std.proofs.Common.{◌≡◌, false}
use Rattle.sz_cells.specs.Cells.{any_cell}
use Rattle.sz_spec.proofs.CodeSquare.{is_in_rows}
use Rattle.sz_payload.proofs.clean.rectangle_meets.Given as goal

abbrev pub invariant-loop-row : goal.invariant-loop-row
invariant-loop-row l =
    any_cell (is_in_rows l.bounds.top l.row l.bounds.left l.bounds.right) l.from ≡ false

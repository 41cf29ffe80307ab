-- The rows before this one have no cell of the set.
use Rattle.std.proofs.Common.{◌≡◌, false}
use Rattle.sz_cells.specs.Cells.{any_cell}
use Rattle.sz_ops_local.specs.Windows.{is_between}
use Rattle.sz_ops_local.proofs.window.meets.Given as goal

abbrev pub invariant-loop-row : goal.invariant-loop-row
invariant-loop-row l = any_cell (is_between l.window.top l.row l.window.left l.window.right) l.from ≡ false

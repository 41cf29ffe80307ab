-- The columns before this one have no cell of the set.
use Rattle.std.proofs.Common.{◌≡◌, ◌+◌, false}
use Rattle.sz_cells.specs.Cells.{any_cell}
use Rattle.sz_ops_local.specs.Windows.{is_between}
use Rattle.sz_ops_local.proofs.window.meets_row.Given as goal

abbrev pub invariant-loop-col : goal.invariant-loop-col
invariant-loop-col l = any_cell (is_between l.row (l.row + 1) l.left l.col) l.from ≡ false

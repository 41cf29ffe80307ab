-- The rows before this one were added.
use Rattle.std.proofs.Common.{◌≡◌}
use Rattle.sz_cells.specs.Cells.{with_those}
use Rattle.sz_ops_local.specs.Windows.{is_between}
use Rattle.sz_ops_local.proofs.window.add.Given as goal

abbrev pub invariant-loop-row : goal.invariant-loop-row
invariant-loop-row l =
    l.to ≡ with_those l.initial.to (is_between l.window.top l.row l.window.left l.window.right)

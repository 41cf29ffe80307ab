-- The least number has the rows so far.
use Rattle.std.proofs.Common.{◌≡◌, None}
use Rattle.sz_ops_window.specs.Least.{with_rows}
use Rattle.sz_ops_window.proofs.clean.least_in.Given as goal

abbrev pub invariant-loop-row : goal.invariant-loop-row
invariant-loop-row l =
    l.least ≡ with_rows l.fn.t l.fn.array l.fn.window.top l.row l.fn.window.left l.fn.window.right None

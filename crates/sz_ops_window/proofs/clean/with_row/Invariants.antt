-- The least number has the columns so far.
use Rattle.std.proofs.Common.{◌≡◌}
use Rattle.sz_ops_window.specs.Least.{with_row}
use Rattle.sz_ops_window.proofs.clean.with_row.Given as goal

abbrev pub invariant-loop-col : goal.invariant-loop-col
invariant-loop-col l = l.least ≡ with_row l.fn.t l.fn.array l.fn.window.left l.col l.fn.row l.fn.least

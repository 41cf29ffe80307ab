-- The cells so far are not empty.
use Rattle.std.proofs.Common.{◌≡◌, ℕ, ◌+◌, ◌*◌, ◌<◌, false, get_or}
use Rattle.sz_ops_window.proofs.sweep.is_whole.Given as goal

abbrev pub invariant-loop-col : goal.invariant-loop-col
invariant-loop-col l = (x : ℕ) → x < l.col → get_or l.voids (l.row * l.array.extent.cols + x) false ≡ false

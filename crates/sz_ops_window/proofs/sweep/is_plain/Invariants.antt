-- The cells so far hold small numbers.
use Rattle.std.proofs.Common.{◌≡◌, ℕ, ◌+◌, ◌*◌, ◌<◌, true, None, get_or}
use Rattle.sz_ops_window.specs.Sweeps.{is_small}
use Rattle.sz_ops_window.proofs.sweep.is_plain.Given as goal

abbrev pub invariant-loop-col : goal.invariant-loop-col
invariant-loop-col l = (x : ℕ) → x < l.col
    → is_small l.most (get_or l.array.values (l.row * l.array.extent.cols + x) None) ≡ true

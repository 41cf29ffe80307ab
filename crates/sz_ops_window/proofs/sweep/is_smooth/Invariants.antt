-- The rows so far are marked.
use Rattle.std.proofs.Common.{◌≡◌, ℕ, ◌+◌, ◌-◌, ◌/◌, ◌<◌, ◌≤◌, true, false, get_or}
use Rattle.sz_ops_window.proofs.sweep.is_smooth.Given as goal

abbrev pub invariant-loop-k : goal.invariant-loop-k
invariant-loop-k l = (k : ℕ) → l.fn.reach.top ≤ k → k < l.k
    → get_or l.plain ((l.row + k) - l.mask.rows / 2) false ≡ true

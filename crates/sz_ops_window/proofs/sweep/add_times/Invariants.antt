-- The sums so far have what was added, and no other has changed.
use Rattle.std.proofs.Common.{◌≡◌, ℕ, ◌+◌, ◌<◌, ◌≤◌, get_or}
use Rattle.std.specs.Prelude.{pos, ◌+ℤ◌, ◌*ℤ◌}
use Rattle.sz_ops_window.proofs.sweep.add_times.Given as goal

abbrev pub invariant-loop-k : goal.invariant-loop-k
invariant-loop-k l = record {
  added : (i : ℕ) → i < l.k → get_or l.sums (l.first + i) (pos 0)
      ≡ get_or l.initial.sums (l.first + i) (pos 0) +ℤ l.weight *ℤ get_or l.numbers (l.start + i) (pos 0);
  before : (i : ℕ) → i < l.first → get_or l.sums i (pos 0) ≡ get_or l.initial.sums i (pos 0);
  behind : (i : ℕ) → l.first + l.k ≤ i → get_or l.sums i (pos 0) ≡ get_or l.initial.sums i (pos 0);
}

-- The marks so far have those of the cells, and no other has changed.
use Rattle.std.proofs.Common.{◌≡◌, ℕ, ◌+◌, ◌<◌, ◌≤◌, get_or, false}
use Rattle.std.specs.Prelude.{◌||◌}
use Rattle.sz_ops_window.proofs.sweep.mark_where.Given as goal

abbrev pub invariant-loop-k : goal.invariant-loop-k
invariant-loop-k l = record {
  added : (i : ℕ) → i < l.k → get_or l.marks (l.first + i) false
      ≡ (get_or l.initial.marks (l.first + i) false || get_or l.voids (l.start + i) false);
  before : (i : ℕ) → i < l.first → get_or l.marks i false ≡ get_or l.initial.marks i false;
  behind : (i : ℕ) → l.first + l.k ≤ i → get_or l.marks i false ≡ get_or l.initial.marks i false;
}

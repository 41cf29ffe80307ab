-- The lists so far have no run.
use Rattle.std.proofs.Common.{◌≡◌, ℕ, [], length, get_or}
use Rattle.sz_ops_region.proofs.run_lists.empty_lists.Given as goal

abbrev pub invariant-loop-room : goal.invariant-loop-room
invariant-loop-room l = record {
  count : length l.lists.items ≡ l.room-index;
  none : (j : ℕ) → get_or l.lists.items j [] ≡ [];
}

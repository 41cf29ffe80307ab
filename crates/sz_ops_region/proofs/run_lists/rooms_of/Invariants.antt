-- No number has more runs than there are stretches before this one.
use Rattle.std.proofs.Common.{◌≡◌, ℕ, ◌+◌, ◌≤◌, length, get_or}
use Rattle.sz_ops_region.proofs.run_lists.rooms_of.Given as goal

abbrev pub invariant-loop-stretch : goal.invariant-loop-stretch
invariant-loop-stretch l = record {
  end : l.stretch-end + 1 ≡ length l.starts;
  long : length l.rooms.items ≡ l.count;
  few : (j : ℕ) → get_or l.rooms.items j 0 ≤ l.stretch;
}

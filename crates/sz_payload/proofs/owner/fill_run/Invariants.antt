-- The indexes of the run so far have the number, and all others what they had.
use Rattle.std.proofs.Common.{◌≡◌, ℕ, ◌<◌, ◌&&◌, cond, length, get_or, nat_le, nat_lt}
use Rattle.sz_payload.proofs.owner.fill_run.Given as goal

abbrev pub invariant-loop-index : goal.invariant-loop-index
invariant-loop-index l = (k : ℕ) → k < length l.initial.slots
    → get_or l.slots k 0 ≡ cond (nat_le l.fn.run.first k && nat_lt k l.index) l.number (get_or l.initial.slots k 0)

-- The indexes of the runs so far have the number, and all others what they had.
use Rattle.std.proofs.Common.{◌≡◌, ℕ, ◌<◌, cond, length, get_or, take}
use Rattle.sz_cells.specs.Runs.{covers}
use Rattle.sz_payload.proofs.owner.fill.Given as goal

abbrev pub invariant-loop-run : goal.invariant-loop-run
invariant-loop-run l = (k : ℕ) → k < length l.initial.slots
    → get_or l.slots k 0 ≡ cond (covers (take l.run-index l.runs) k) l.number (get_or l.initial.slots k 0)

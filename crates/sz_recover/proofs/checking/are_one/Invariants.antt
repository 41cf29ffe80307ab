-- So far they stand for the same on each input.
use Rattle.std.proofs.Common.{ℕ, ◌<◌}
use Rattle.sz_store.specs.Kept.{holding_for}
use Rattle.sz_recover.specs.Comparing.{AgreeOn}
use Rattle.sz_recover.proofs.checking.are_one.Given as goal

abbrev pub invariant-loop-input : goal.invariant-loop-input
invariant-loop-input l =
    (i : ℕ) → i < l.input → AgreeOn l.at (holding_for l.s l.a.stores) (holding_for l.s l.b.stores) i

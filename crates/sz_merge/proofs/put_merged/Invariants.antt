-- The stores before the place are merged.
use Rattle.std.proofs.Common.{take}
use Rattle.sz_merge.specs.Merged.{ArePartsMerged}
use Rattle.sz_merge.proofs.put_merged.Given as goal

abbrev pub invariant-loop-place : goal.invariant-loop-place
invariant-loop-place l =
    ArePartsMerged l.store.site (take l.place l.store.stores) l.same l.to.items l.kinds.items

-- The arrays so far are the first ones.
use Rattle.std.proofs.Common.{◌≡◌, map, take}
use Rattle.std.specs.Arc.{arc_value}
use Rattle.sz_versions.proofs.finding.share.Given as goal

abbrev pub invariant-loop-array : goal.invariant-loop-array
invariant-loop-array l =
    (map (λ a. arc_value a) l.array-items ≡ l.arrays)
    × (map (λ a. arc_value a) l.items.items ≡ map (λ a. arc_value a) (take l.array-index l.array-items))

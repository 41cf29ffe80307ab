-- The arrays so far are the first ones.
use Rattle.std.proofs.Common.{◌≡◌, map, take}
use Rattle.std.specs.Arc.{arc_value}
use Rattle.sz_pool.proofs.making.share.Given as goal

abbrev pub invariant-loop-array : goal.invariant-loop-array
invariant-loop-array l =
    map (λ a. arc_value a) l.items.items ≡ map (λ a. arc_value a) (take l.array-index l.arrays)

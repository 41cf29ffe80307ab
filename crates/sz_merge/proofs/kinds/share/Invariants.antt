-- The sets so far are the first ones.
use Rattle.std.proofs.Common.{◌≡◌, map, take}
use Rattle.std.specs.Arc.{arc_value}
use Rattle.sz_merge.proofs.kinds.share.Given as goal

abbrev pub invariant-loop-set : goal.invariant-loop-set
invariant-loop-set l =
    map (λ a. arc_value a) l.shared.items ≡ map (λ a. arc_value a) (take l.set-index l.sets)

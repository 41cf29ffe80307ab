-- The region pairs of the numbers before this one are made.
use Rattle.std.proofs.Common.{◌≡◌, map}
use Rattle.std.specs.Arc.{arc_value}
use Rattle.sz_merge.specs.Marks.{kinds_below}
use Rattle.sz_merge.proofs.kinds.regions_of.Given as goal

abbrev pub invariant-loop-number : goal.invariant-loop-number
invariant-loop-number l =
    map (λ a. arc_value a) l.regions.items ≡ kinds_below l.out l.groups l.lists l.number

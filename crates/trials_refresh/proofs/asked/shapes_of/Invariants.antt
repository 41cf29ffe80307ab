-- The shapes so far are those of the first arrays.
use Rattle.std.proofs.Common.{◌≡◌, map, take}
use Rattle.std.specs.Arc.{arc_value}
use Rattle.sz_spec.specs.Values.{extents_of}
use Rattle.trials_refresh.proofs.asked.shapes_of.Given as goal

abbrev pub invariant-loop-array : goal.invariant-loop-array
invariant-loop-array l = l.shapes.items ≡ extents_of (map (λ a. arc_value a) (take l.array-index l.arrays))

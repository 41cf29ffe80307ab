-- The arrays so far are those of the first base arrays.
use Rattle.std.proofs.Common.{◌≡◌, map, take}
use Rattle.std.specs.Arc.{arc_value}
use Rattle.sz_catalogue.specs.Holdings.{arrays_of}
use Rattle.sz_versions.proofs.recalled.arrays_of.Given as goal

abbrev pub invariant-loop-only : goal.invariant-loop-only
invariant-loop-only l = map (λ a. arc_value a) l.arrays.items ≡ arrays_of (take l.only-index l.base)

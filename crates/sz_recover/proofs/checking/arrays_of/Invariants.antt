-- So far the arrays of the first base arrays.
use Rattle.std.proofs.Common.{◌≡◌, take, map}
use Rattle.std.specs.Arc.{arc_value}
use Rattle.sz_catalogue.specs.Holdings.{arrays_of}
use Rattle.sz_recover.proofs.checking.arrays_of.Given as goal

abbrev pub invariant-loop-only : goal.invariant-loop-only
invariant-loop-only l = map (λ a. arc_value a) l.arrays.items ≡ arrays_of (take l.only-index l.base)

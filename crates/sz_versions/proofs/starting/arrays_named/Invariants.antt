-- The arrays so far are those of the first names.
use Rattle.std.proofs.Common.{◌≡◌, map, take}
use Rattle.std.specs.Arc.{arc_value}
use Rattle.sz_catalogue.specs.Holdings.{arrays_of}
use Rattle.sz_catalogue.specs.Starts.{bases_of}
use Rattle.sz_versions.proofs.starting.arrays_named.Given as goal

abbrev pub invariant-loop-only : goal.invariant-loop-only
invariant-loop-only l =
    map (λ a. arc_value a) l.arrays.items ≡ arrays_of (bases_of l.catalogue (take l.only-index l.base))

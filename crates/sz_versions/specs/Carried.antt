-- The run that is carried of a version, whether it is made or not.
use Rattle.std.specs.Prelude.{[]}
use Rattle.sz_versions.specs.Stores.{Trail}
use Rattle.sz_versions.specs.declared.held.Carried.{Carried}
use Rattle.sz_versions.specs.declared.held.Carried.TheVariants as carried

-- the run that is carried; of one that is lent nothing
abbrev pub trail_of : Carried → Trail
trail_of (carried.Made run) = run
trail_of (carried.Unmade run) = run
trail_of carried.Lent = record { executions = []; kept = [] }

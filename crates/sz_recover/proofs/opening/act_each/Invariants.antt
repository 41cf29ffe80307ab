-- The disk is as before, the entries are those of the versions, and the log goes well up to the place.
use Rattle.std.proofs.Common.{◌≡◌, ◌-◌, true}
use Rattle.sz_formats.specs.Formats.{is_format}
use Rattle.sz_recover.specs.Calls.{Keeps, Stays}
use Rattle.sz_recover.specs.Logs.{IsSoFar}
use Rattle.sz_recover.specs.Opened.{AreOfVersions}
use Rattle.sz_recover.proofs.opening.act_each.Given as goal

abbrev pub invariant-loop-kept : goal.invariant-loop-kept
invariant-loop-kept g l = record {
  kept : Keeps g.T.Station.disk g.T.Station.said g.T.Station.say_faults l.fn.station l.station;
  faults : g.T.Station.disk_faults l.station ≡ g.T.Station.disk_faults l.fn.station;
  stops : Stays g.T.Station.disk g.T.Station.moment g.T.Station.left_since g.T.Station.may_leave g.T.Station.said
      l.fn.station l.station;
  entries : AreOfVersions l.catalogue l.kept.items;
  format : is_format l.format ≡ true;
  far : IsSoFar (g.T.Station.disk l.fn.station) l.at l.format l.catalogue l.kept.items;
}

abbrev pub decreases-loop-kept : goal.decreases-loop-kept
decreases-loop-kept g l = 18446744073709551616 - l.at

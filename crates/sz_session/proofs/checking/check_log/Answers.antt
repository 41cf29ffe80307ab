-- To open a log leaves the disk and what was said as they were.
use Rattle.std.proofs.Common.{refl}
use Rattle.sz_session.proofs.Checkings.{fails-stops, opened-stops}
use Rattle.sz_session.proofs.Ends.{counted-behind}
use Rattle.sz_session.proofs.checking.check_log.Goals as goal

pub returns-in-Ok-clause-stops : goal.returns-in-Ok-clause-stops
returns-in-Ok-clause-stops g c =
    opened-stops g.T.Station c.args.station.now c.catalogue_of.new.station c.check_opened.new.station
    c.catalogue_of.ensures.disk c.catalogue_of.ensures.output.0 c.catalogue_of.ensures.stops
    c.check_opened.ensures.stops

pub returns-in-Err-clause-stops : goal.returns-in-Err-clause-stops
returns-in-Err-clause-stops g c =
    fails-stops g.T.Station c.args.station.now c.catalogue_of.new.station c.catalogue_of.ensures.disk
    c.catalogue_of.ensures.stops

-- and counts no fault
pub returns-in-Ok-clause-counted : goal.returns-in-Ok-clause-counted
returns-in-Ok-clause-counted g c =
    counted-behind g.T.Station c.check_opened.result 0 0 0 c.args.station.now c.catalogue_of.new.station
    c.check_opened.new.station (refl, c.catalogue_of.ensures.output.1, c.in-Ok.ensures.counted)
    c.check_opened.ensures.counted

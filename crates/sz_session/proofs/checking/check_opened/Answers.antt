-- Where there was no memory for the line, nothing was said.
use Rattle.std.proofs.Common.{[], refl, inl}
use Rattle.sz_feed.proofs.Disks.{stays-still}
use Rattle.sz_session.proofs.Checkings.{line-stops}
use Rattle.sz_session.proofs.checking.check_opened.Goals as goal

pub returns-in_default-clause-stops : goal.returns-in_default-clause-stops
returns-in_default-clause-stops g c =
    line-stops g.T.Station [] c.args.station.now c.args.station.now (inl refl)
    (stays-still g.T.Station [] c.args.station.now (g.met.T.Station.only_now c.args.station.now)
    (g.met.T.Station.counts_now c.args.station.now))

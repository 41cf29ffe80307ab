-- Where there was no memory nothing was said.
use Rattle.sz_feed.proofs.Turns.{says-nothing}
use Rattle.sz_feed.proofs.Disks.{stays-still}
use Rattle.sz_session.proofs.load.load.Goals as goal

pub returns-in_default-clause-ends : goal.returns-in_default-clause-ends
returns-in_default-clause-ends g c = says-nothing (g.T.Station.said c.args.station.now)

pub returns-in_default-clause-disk : goal.returns-in_default-clause-disk
returns-in_default-clause-disk g c =
    stays-still g.T.Station _ c.args.station.now (g.met.T.Station.only_now c.args.station.now)
    (g.met.T.Station.counts_now c.args.station.now)

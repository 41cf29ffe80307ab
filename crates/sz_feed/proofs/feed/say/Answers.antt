-- Where there is no reply, or no memory for its line, nothing is done.
use Rattle.std.proofs.lemmas.Result.{err_from_is_err_and}
use Rattle.sz_feed.proofs.Calls.{said-none, said-halted}
use Rattle.sz_feed.proofs.feed.say.Goals as goal

pub returns-in_default-clause-said : goal.returns-in_default-clause-said
returns-in_default-clause-said g c =
    said-none g.T.Station _ _ c.args.station.now (g.met.T.Station.only_now c.args.station.now)
    (g.met.T.Station.counts_now c.args.station.now)

pub returns-in_err-line-clause-said : goal.returns-in_err-line-clause-said
returns-in_err-line-clause-said g c =
    let p = err_from_is_err_and c.from_residual.result c.from_residual.ensures.1 in
    rw (p.1, p.2)
    (said-halted g.T.Station _ c.args.station.now (g.met.T.Station.only_now c.args.station.now)
    (g.met.T.Station.counts_now c.args.station.now))

-- Where the line was not read nothing is done.
use Rattle.std.proofs.Common.{[], ◌∷◌}
use Rattle.std.proofs.lemmas.Result.{err_from_is_err_and}
use Rattle.sz_feed.proofs.Calls.{answered-halted}
use Rattle.sz_feed.proofs.feed.Feed.end_line.Goals as goal

pub returns-in_err-given-clause-answered : goal.returns-in_err-given-clause-answered
returns-in_err-given-clause-answered g c =
    let a = c.args.station.now in
    let p = err_from_is_err_and c.from_residual.result c.from_residual.ensures.1 in
    rw (p.1, p.2)
    (answered-halted g.T.Station c.args.self.now _ [] (10 ∷ []) a c.requires.log (g.met.T.Station.only_now a)
    (g.met.T.Station.counts_now a))

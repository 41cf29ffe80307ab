-- The log, where there is one, stands beside the session.
use Rattle.sz_commands.specs.Logged.{HasLog}
use Rattle.trials_askers.proofs.workers.is_traced_no_more.Given as goal

abbrev pub invariant-loop-turn : goal.invariant-loop-turn
invariant-loop-turn g l = HasLog g.T.Station l.session.held l.session.end l.station

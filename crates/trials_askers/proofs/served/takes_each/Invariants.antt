-- The log, where there is one, stands beside the session.
use Rattle.sz_commands.specs.Logged.{HasLog}
use Rattle.trials_askers.proofs.served.takes_each.Given as goal

abbrev pub invariant-loop-line : goal.invariant-loop-line
invariant-loop-line g l = HasLog g.T.Station l.session.held l.session.end l.station

-- The log stands beside the session again.
use Rattle.std.proofs.lemmas.Result.{on_ok_weaker}
use Rattle.sz_commands.specs.Logged.{held_after}
use Rattle.sz_commands.proofs.Logged.{still-stops, log-again}
use Rattle.sz_commands.proofs.session.Session.command.Goals as goal

pub returns-in_err-given-clause-stops : goal.returns-in_err-given-clause-stops
returns-in_err-given-clause-stops g c =
    still-stops g.T.Station c.args.self.now.held (held_after c.args.self.now c.args.line.now)
    c.args.self.now.end c.args.station.now (g.met.T.Station.only_now c.args.station.now)
    (g.met.T.Station.counts_now c.args.station.now)

pub returns-clause-again : goal.returns-clause-again
returns-clause-again g c =
    on_ok_weaker c.take_on.result
    (λ keeps. log-again g.T.Station c.args.self.now.held c.take_on.new.self.held c.args.self.now.end
    c.take_on.new.self.end c.args.station.now c.take_on.new.station c.requires.log keeps)
    c.take_on.ensures.log

-- An ask that waits tells its reply once it is said, behind those before it.
use Rattle.std.proofs.Common.{[], ◌∷◌}
use Rattle.std.proofs.lemmas.Result.{err_from_is_err_and}
use Rattle.sz_feed.specs.Moments.{told_in}
use Rattle.sz_commands.specs.Asks.{asks_text}
use Rattle.sz_feed.proofs.Calls.{said-none, said-halted}
use Rattle.sz_feed.proofs.Disks.{only-longer}
use Rattle.sz_feed.proofs.Waiting.{lags-wait, says-waited}
use Rattle.sz_feed.proofs.feed.Feed.take_ask.Goals as goal

pub returns-in_err-wait-clause-said : goal.returns-in_err-wait-clause-said
returns-in_err-wait-clause-said g c =
    let a = c.args.station.now in
    let p = err_from_is_err_and c.from_residual.result c.from_residual.ensures.1 in
    rw (p.1, p.2) (said-halted g.T.Station _ a (g.met.T.Station.only_now a) (g.met.T.Station.counts_now a))

pub returns-then-not-is_full-clause-lags : goal.returns-then-not-is_full-clause-lags
returns-then-not-is_full-clause-lags g c =
    let gives = c.requires.gives in
    rw (c.in_ok-wait.ensures.next, c.in_ok-wait.ensures.waits)
    (lags-wait (g.T.Station.said c.args.station.now) c.args.self.now c.args.ask c.args.waiting.now.items gives.0 gives.1
    gives.2)

pub returns-then-not-is_full-clause-said : goal.returns-then-not-is_full-clause-said
returns-then-not-is_full-clause-said g c =
    let a = c.args.station.now in
    said-none g.T.Station _ _ a (g.met.T.Station.only_now a) (g.met.T.Station.counts_now a)

-- where those that wait could not be answered
pub returns-in_err-say_waiting-clause-says : goal.returns-in_err-say_waiting-clause-says
returns-in_err-say_waiting-clause-says g c =
    let said = c.in_err-say_waiting.ensures in
    let p =
    err_from_is_err_and c.from_residual-in_err-say_waiting.result c.from_residual-in_err-say_waiting.ensures.1 in
    rw (p.1, p.2) (says-waited _ _ _ _ _ said.says said.said.plain)

pub returns-in_err-say_waiting-clause-said : goal.returns-in_err-say_waiting-clause-said
returns-in_err-say_waiting-clause-said g c =
    let said = c.in_err-say_waiting.ensures.said in
    let p =
    err_from_is_err_and c.from_residual-in_err-say_waiting.result c.from_residual-in_err-say_waiting.ensures.1 in
    rw (p.1, p.2) (record {
      counted = said.counted;
      plain = said.plain;
      found = only-longer g.T.Station c.args.station.now c.say_waiting.new.station
          (asks_text c.args.self.now.held c.args.waiting.now.items)
          (told_in c.args.self.now (10 ∷ [])) said.found;
    })

pub returns-in_err-wait-2-clause-said : goal.returns-in_err-wait-2-clause-said
returns-in_err-wait-2-clause-said g c =
    let said = c.in_ok-say_waiting.ensures.said in
    let p = err_from_is_err_and c.from_residual-in_err-wait-2.result c.from_residual-in_err-wait-2.ensures.1 in
    rw (p.1, p.2) (record {
      counted = said.counted;
      plain = λ is. cc;
      found = only-longer g.T.Station c.args.station.now c.say_waiting.new.station
          (asks_text c.args.self.now.held c.args.waiting.now.items)
          (told_in c.args.self.now (10 ∷ [])) said.found;
    })

pub returns-clause-said : goal.returns-clause-said
returns-clause-said g c =
    let said = c.in_ok-say_waiting.ensures.said in
    record {
      counted = said.counted;
      plain = λ is. cc;
      found = only-longer g.T.Station c.args.station.now c.say_waiting.new.station
          (asks_text c.args.self.now.held c.args.waiting.now.items)
          (told_in c.args.self.now (10 ∷ [])) said.found;
    }

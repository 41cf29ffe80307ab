-- A refused command leaves the log, and so does one for which there is no memory.
use Rattle.std.proofs.Common.{refl, sym, ◌∙◌, true≢false}
use Rattle.std.proofs.lemmas.Result.{on_ok_weaker}
use Rattle.sz_commands.specs.States.{after_command}
use Rattle.sz_commands.proofs.Appending.{free-makes, refused-makes}
use Rattle.sz_commands.proofs.Carrying.{stored-taken, stored-refused}
use Rattle.sz_commands.proofs.Lasting.{same-keeps}
use Rattle.sz_commands.proofs.Logged.{still-stops}
use Rattle.sz_commands.proofs.session.Session.judge_on.Goals as goal

pub returns-in-Some-clause-log : goal.returns-in-Some-clause-log
returns-in-Some-clause-log g c =
    same-keeps g.T.Station c.args.self.now c.args.self.now c.args.station.now c.requires.log refl

pub returns-in-Some-clause-stops : goal.returns-in-Some-clause-stops
returns-in-Some-clause-stops g c =
    still-stops g.T.Station c.args.self.now.held (after_command c.args.self.now c.args.command).0.held
    c.args.self.now.end c.args.station.now (g.met.T.Station.only_now c.args.station.now)
    (g.met.T.Station.counts_now c.args.station.now)

pub returns-in_err-ruling-clause-stops : goal.returns-in_err-ruling-clause-stops
returns-in_err-ruling-clause-stops g c =
    still-stops g.T.Station c.args.self.now.held (after_command c.args.self.now c.args.command).0.held
    c.args.self.now.end c.args.station.now (g.met.T.Station.only_now c.args.station.now)
    (g.met.T.Station.counts_now c.args.station.now)

pub returns-in-None-clause-idle : goal.returns-in-None-clause-idle
returns-in-None-clause-idle g c =
    let held = c.args.self.now.held in
    let free = c.in_ok-ruling.ensures ∙ c.in-None.is in
    λ none. c.accept_on.ensures.idle (sym (free-makes held c.args.command free) ∙ none)

pub returns-in-None-clause-appends : goal.returns-in-None-clause-appends
returns-in-None-clause-appends g c =
    let held = c.args.self.now.held in
    let free = c.in_ok-ruling.ensures ∙ c.in-None.is in
    on_ok_weaker c.accept_on.result
    (λ added made. added (sym (free-makes held c.args.command free) ∙ made)) c.accept_on.ensures.appends

pub returns-in-Some-clause-appends : goal.returns-in-Some-clause-appends
returns-in-Some-clause-appends g c =
    let held = c.args.self.now.held in
    let rule = c.in-Some.rule in
    let refused = c.in_ok-ruling.ensures ∙ c.in-Some.is in
    λ made. absurd (true≢false (sym made ∙ refused-makes held c.args.command rule refused))

pub returns-in-None-clause-written : goal.returns-in-None-clause-written
returns-in-None-clause-written g c =
    let held = c.args.self.now.held in
    let free = c.in_ok-ruling.ensures ∙ c.in-None.is in
    λ fault. free-makes held c.args.command free ∙ c.accept_on.ensures.written fault

-- ---- what is kept of nodes

pub returns-in-None-clause-stored : goal.returns-in-None-clause-stored
returns-in-None-clause-stored g c =
    on_ok_weaker c.accept_on.result
    (stored-taken c.args.self.now c.accept_on.new.self c.args.command (c.in_ok-ruling.ensures ∙ c.in-None.is))
    c.accept_on.ensures.stored

pub returns-in-Some-clause-stored : goal.returns-in-Some-clause-stored
returns-in-Some-clause-stored g c =
    stored-refused c.args.self.now c.args.self.now c.args.command c.in-Some.rule
    (c.in_ok-ruling.ensures ∙ c.in-Some.is) refl

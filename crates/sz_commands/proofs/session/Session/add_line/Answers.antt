-- The line acts on what the log holds as the command does on what the session holds.
use Rattle.std.proofs.Common.{Some, refl, sym, ap, ◌∙◌, subst}
use Rattle.sz_catalogue.specs.Changes as changes
use Rattle.sz_catalogue.specs.Holdings.{Holdings}
use Rattle.sz_catalogue.specs.Seen.{response_of}
use Rattle.sz_commands.specs.States.{SessionState, apart}
use Rattle.sz_commands.specs.Carrying.{StoredBy}
use Rattle.sz_commands.specs.Logged.{KeepsLog, StopsInLog, IsLineGroup, place_of}
use Rattle.sz_commands.proofs.Appending.{group-added}
use Rattle.sz_commands.proofs.Carrying.{stored-left, line-leaves}
use Rattle.sz_commands.proofs.Lasting.{left-held}
use Rattle.sz_commands.proofs.Logged.{still-stops, log-ends, ending, IsStep, line-step, append-stops, append-keeps}
use Rattle.sz_commands.proofs.States.{accepted-seen}
use Rattle.sz_commands.proofs.session.Session.add_line.Given.{Over}
use Rattle.sz_commands.proofs.session.Session.add_line.Goals.{After-append}
use Rattle.sz_commands.proofs.session.Session.add_line.Goals as goal

pub returns-in_err-reply-clause-stops : goal.returns-in_err-reply-clause-stops
returns-in_err-reply-clause-stops g c =
    still-stops g.T.Station c.args.self.now.held (changes.accepted c.args.self.now.held c.args.command).0
    c.args.self.now.end c.args.station.now (g.met.T.Station.only_now c.args.station.now)
    (g.met.T.Station.counts_now c.args.station.now)

pub append-requires-clause-log : goal.append-requires-clause-log
append-requires-clause-log g c =
    log-ends g.T.Station c.args.self.now.held (place_of c.args.log) c.args.station.now c.requires.log

-- the line is one step of the log
step : (g : Over) (c : After-append g)
    → IsStep c.args.log.format c.args.self.now.held (changes.accepted c.args.self.now.held c.args.command).0
    (record { kind = c.args.kind; body = c.args.line.now })
step g c =
    line-step c.args.log.format c.args.self.now.held c.args.kind c.args.line.now c.args.command c.requires.reads
    c.requires.kind c.requires.judged

stops : (g : Over) (c : After-append g)
    → StopsInLog g.T.Station c.args.self.now.held c.args.self.now.end
    (changes.accepted c.args.self.now.held c.args.command).0 c.args.station.now c.append.new.station
stops g c =
    append-stops g.T.Station c.args.self.now.held _ c.args.self.now.end (place_of c.args.log) _ c.args.station.now
    c.append.new.station c.requires.end (step g c) c.append.ensures.stops

pub returns-in_err-next-clause-stops : goal.returns-in_err-next-clause-stops
returns-in_err-next-clause-stops g c = stops g (goal.at.returns-in_err-next-clause-stops g c).After-append

pub returns-clause-log : goal.returns-clause-log
returns-clause-log g c =
    let held = c.args.self.now.held in
    let left = ap (λ (s : SessionState). s.held) c.self.view_is
    ∙ left-held c.args.self.now c.accept.new.self c.args.command _ c.in_ok-reply.ensures.reply in
    let L : Holdings → Type 0 = λ h.
    KeepsLog g.T.Station held c.args.self.now.end h (Some (ending (place_of c.args.log) c.in_ok-next.next.at))
    c.args.station.now
    c.append.new.station in
    subst L (sym left)
    (append-keeps g.T.Station held (changes.accepted held c.args.command).0 c.args.self.now.end (place_of c.args.log)
    c.in_ok-next.next.at _ c.args.station.now c.append.new.station c.requires.end
    (step g (goal.at.returns-clause-log g c).After-append) c.in_ok-next.ensures.added c.in_ok-next.ensures.end
    c.in_ok-next.ensures.synced)

pub returns-clause-stops : goal.returns-clause-stops
returns-clause-stops g c = stops g (goal.at.returns-clause-stops g c).After-append

pub returns-clause-appends : goal.returns-clause-appends
returns-clause-appends g c =
    group-added g.T.Station (λ format. IsLineGroup c.args.command c.args.line.now) c.args.self.now.end
    (place_of c.args.log)
    c.in_ok-next.next.at (record { kind = c.args.kind; body = c.args.line.now }) c.args.station.now c.append.new.station
    c.requires.end (c.requires.kind, refl) c.in_ok-next.ensures.added c.in_ok-next.ensures.end

pub returns-clause-reply : goal.returns-clause-reply
returns-clause-reply g c =
    accepted-seen c.args.self.now c.accept.new.self c.args.command _ c.in_ok-reply.ensures.reply
    ∙ ap (λ (s : SessionState). (apart s, response_of c.in_ok-reply.reply)) (sym c.self.view_is)

pub returns-clause-stored : goal.returns-clause-stored
returns-clause-stored g c =
    let s : SessionState = c.args.self.now in
    let command = c.args.command in
    subst (λ (t : SessionState). StoredBy s command t) (sym c.self.view_is)
    (stored-left s c.accept.new.self command _ (line-leaves c.args.kind command c.requires.kind)
    c.in_ok-reply.ensures.reply)

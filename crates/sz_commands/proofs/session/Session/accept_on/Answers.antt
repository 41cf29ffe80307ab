-- A command that makes nothing durable leaves the log. A line that was appended is what its command makes durable, and
-- so is the body of a version.
use Rattle.std.proofs.Common.{sym, ◌∙◌, true≢false, []}
use Rattle.std.proofs.lemmas.Result.{on_ok_weaker}
use Rattle.sz_script.specs.declared.command.Command.{Command}
use Rattle.sz_commands.specs.Logged.{StopsInLog, IsLineGroup, IsVersionGroup, IsGroupFor}
use Rattle.sz_commands.specs.States.{SessionState, accepted}
use Rattle.sz_commands.proofs.Appending.{appends-as, line-group, array-group, line-makes, refresh-makes}
use Rattle.sz_commands.proofs.Appending.{nothing-makes, await-idle, await-makes}
use Rattle.sz_commands.proofs.Appending.{await-group, await-writes}
use Rattle.sz_commands.proofs.Lasting.{nothing-keeps}
use Rattle.sz_commands.proofs.Logged.{still-stops}
use Rattle.sz_commands.proofs.session.Session.accept_on.Given.{Over}
use Rattle.sz_commands.proofs.session.Session.accept_on.Goals as goal

-- where no call is made, a stop leaves the log
still : (g : Over) (s : SessionState) (command : Command) (x : g.row.T.Denot)
    → StopsInLog g.T.Station s.held s.end (accepted s command).0.held x x
still g s command x =
    still-stops g.T.Station s.held (accepted s command).0.held s.end x (g.met.T.Station.only_now x)
    (g.met.T.Station.counts_now x)

pub returns-in-Line-clause-idle : goal.returns-in-Line-clause-idle
returns-in-Line-clause-idle g c =
    λ none. absurd (true≢false
    (sym (line-makes c.args.self.now.held c.in-Line.kind c.args.command c.in-Line.ensures) ∙ none))

pub returns-in-Line-clause-appends : goal.returns-in-Line-clause-appends
returns-in-Line-clause-appends g c =
    let held = c.args.self.now.held in
    let line = c.args.line.now in
    on_ok_weaker c.add_line.result
    (λ added made. appends-as g.T.Station (λ format. IsLineGroup c.args.command line)
    (IsGroupFor held line c.args.command)
    c.args.self.now.end c.add_line.new.self.end c.args.station.now c.add_line.new.station
    (line-group held line c.args.command) added)
    c.add_line.ensures.appends

pub returns-in-Line-clause-written : goal.returns-in-Line-clause-written
returns-in-Line-clause-written g c =
    λ fault. line-makes c.args.self.now.held c.in-Line.kind c.args.command c.in-Line.ensures

pub returns-in-Array-clause-idle : goal.returns-in-Array-clause-idle
returns-in-Array-clause-idle g c =
    λ none. absurd (true≢false
    (sym (refresh-makes c.args.self.now.held c.args.command c.in-Array.ensures) ∙ none))

pub returns-in-Array-clause-appends : goal.returns-in-Array-clause-appends
returns-in-Array-clause-appends g c =
    let held = c.args.self.now.held in
    let line = c.args.line.now in
    on_ok_weaker c.add_array.result
    (λ added made. appends-as g.T.Station (IsGroupFor held [] c.args.command) (IsGroupFor held line c.args.command)
    c.args.self.now.end c.add_array.new.self.end c.args.station.now c.add_array.new.station
    (λ format e such. array-group held line c.args.command format e c.in-Array.ensures such) added)
    c.add_array.ensures.appends

pub returns-in-Array-clause-written : goal.returns-in-Array-clause-written
returns-in-Array-clause-written g c =
    λ fault. refresh-makes c.args.self.now.held c.args.command c.in-Array.ensures

pub returns-in-Version-clause-written : goal.returns-in-Version-clause-written
returns-in-Version-clause-written g c =
    λ fault. await-writes c.args.self.now.held c.args.command c.in-Version.version c.in-Version.ensures
    (c.add_version.ensures.written fault)

pub returns-in-Version-clause-idle : goal.returns-in-Version-clause-idle
returns-in-Version-clause-idle g c =
    λ none. c.add_version.ensures.idle
    (await-idle c.args.self.now.held c.args.command c.in-Version.version c.in-Version.ensures none)

pub returns-in-Version-clause-appends : goal.returns-in-Version-clause-appends
returns-in-Version-clause-appends g c =
    let held = c.args.self.now.held in
    let line = c.args.line.now in
    let n = c.in-Version.version in
    let is = c.in-Version.ensures in
    on_ok_weaker c.add_version.result
    (λ added made. appends-as g.T.Station (IsVersionGroup held n) (IsGroupFor held line c.args.command)
    c.args.self.now.end c.add_version.new.self.end c.args.station.now c.add_version.new.station
    (λ format e such. await-group held line c.args.command n format e is such)
    (added (await-makes held c.args.command n is made)))
    c.add_version.ensures.appends

pub returns-in_err-obey-in-Nothing-clause-stops : goal.returns-in_err-obey-in-Nothing-clause-stops
returns-in_err-obey-in-Nothing-clause-stops g c = still g c.args.self.now c.args.command c.args.station.now

pub returns-in_ok-obey-in-Nothing-clause-log : goal.returns-in_ok-obey-in-Nothing-clause-log
returns-in_ok-obey-in-Nothing-clause-log g c =
    nothing-keeps g.T.Station c.args.self.now c.obey-in-Nothing.new.self c.args.command _ c.args.station.now
    c.requires.log c.in_ok-obey-in-Nothing.ensures.reply c.in_ok-obey-in-Nothing.ensures.end c.in-Nothing.ensures

pub returns-in_ok-obey-in-Nothing-clause-stops : goal.returns-in_ok-obey-in-Nothing-clause-stops
returns-in_ok-obey-in-Nothing-clause-stops g c = still g c.args.self.now c.args.command c.args.station.now

pub returns-in_ok-obey-in-Nothing-clause-appends : goal.returns-in_ok-obey-in-Nothing-clause-appends
returns-in_ok-obey-in-Nothing-clause-appends g c =
    λ made. absurd (true≢false
    (sym made ∙ nothing-makes c.args.self.now.held c.args.command c.in-Nothing.ensures))

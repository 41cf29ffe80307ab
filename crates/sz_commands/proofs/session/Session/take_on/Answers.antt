-- A blank line and one that is read as no command leave the log; any other line does what its command does.
use Rattle.std.proofs.Common.{◌≡◌, ℕ, List, Ok, Err, true, false, refl, sym, ap, ◌∙◌, subst, true≢false, arith}
use Rattle.sz_log.specs.Log.{LogGroup}
use Rattle.sz_script.specs.Reading.{reading}
use Rattle.sz_script.specs.declared.command.Command.{Command}
use Rattle.sz_catalogue.specs.Rules.{judged}
use Rattle.sz_commands.specs.Given.{LineGives}
use Rattle.sz_commands.specs.Lines.{is_blank}
use Rattle.sz_commands.specs.States.{SessionState}
use Rattle.sz_commands.specs.Logged.{StopsInLog, Appends, held_after, IsGroupFor, IsGroupOf, makes_judged}
use Rattle.sz_commands.specs.Logged.{makes_durable}
use Rattle.sz_commands.specs.declared.session.Given.{Given}
use Rattle.sz_commands.specs.declared.session.Given.TheVariants as given
use Rattle.sz_commands.proofs.Appending.{makes_given, given-makes, read-group, appends-as}
use Rattle.sz_commands.proofs.Carrying.{stored-blank, stored-read}
use Rattle.sz_commands.proofs.Lasting.{same-keeps}
use Rattle.sz_commands.proofs.Logged.{still-stops}
use Rattle.sz_commands.proofs.session.Session.take_on.Given.{Over}
use Rattle.sz_commands.proofs.session.Session.take_on.Goals as goal

-- where no call is made, a stop leaves the log
still : (g : Over) (s : SessionState) (line : List ℕ) (x : g.row.T.Denot)
    → StopsInLog g.T.Station s.held s.end (held_after s line) x x
still g s line x =
    still-stops g.T.Station s.held (held_after s line) s.end x (g.met.T.Station.only_now x)
    (g.met.T.Station.counts_now x)

-- the line makes durable what that does which it gives
line-makes : (s : SessionState) (line : List ℕ) (x y : Given) → LineGives line x → x ≡ y
    → makes_durable s.held line ≡ makes_given s.held y
line-makes s line x y gives is = given-makes s.held line x gives ∙ ap (makes_given s.held) is

-- a line that gives a command
record IsOf (s : SessionState) (line : List ℕ) (command : Command) : Type 0 where
  pub full : is_blank line ≡ false
  pub read : reading line ≡ Ok command
  pub makes : makes_durable s.held line ≡ makes_judged s.held command (judged s.held command)

ask-of : (s : SessionState) (line : List ℕ) (x : Given) (command : Command) → LineGives line x → x ≡ given.Ask command
    → IsOf s line command
ask-of s line x command gives is =
    let own = subst (λ (y : Given). LineGives line y) is gives in
    record { full = own.0; read = own.1; makes = line-makes s line x (given.Ask command) gives is }

other-of : (s : SessionState) (line : List ℕ) (x : Given) (command : Command) → LineGives line x
    → x ≡ given.Other command → IsOf s line command
other-of s line x command gives is =
    let own = subst (λ (y : Given). LineGives line y) is gives in
    record { full = own.0; read = own.1; makes = line-makes s line x (given.Other command) gives is }

-- what its command appends, it appends
appended : (g : Over) (s t : SessionState) (line : List ℕ) (command : Command) (a b : g.row.T.Denot)
    → IsOf s line command
    → (makes_judged s.held command (judged s.held command) ≡ true
    → Appends g.T.Station (IsGroupFor s.held line command) s.end t.end a b)
    → makes_durable s.held line ≡ true
    → Appends g.T.Station (IsGroupOf s.held line (reading line)) s.end t.end a b
appended g s t line command a b own appends made =
    appends-as g.T.Station (IsGroupFor s.held line command) (IsGroupOf s.held line (reading line)) s.end t.end a b
    (λ (format : ℕ) (e : LogGroup). read-group s.held line command format e own.read)
    (appends (sym own.makes ∙ made))

pub returns-in-Nothing-clause-log : goal.returns-in-Nothing-clause-log
returns-in-Nothing-clause-log g c =
    same-keeps g.T.Station c.args.self.now c.args.self.now c.args.station.now c.requires.log refl

pub returns-in-Nothing-clause-stops : goal.returns-in-Nothing-clause-stops
returns-in-Nothing-clause-stops g c = still g c.args.self.now c.args.line.now c.args.station.now

pub returns-in-Refused-clause-log : goal.returns-in-Refused-clause-log
returns-in-Refused-clause-log g c =
    same-keeps g.T.Station c.args.self.now c.args.self.now c.args.station.now c.requires.log refl

pub returns-in-Refused-clause-stops : goal.returns-in-Refused-clause-stops
returns-in-Refused-clause-stops g c = still g c.args.self.now c.args.line.now c.args.station.now

-- ---- what is appended

pub returns-in-Nothing-clause-appends : goal.returns-in-Nothing-clause-appends
returns-in-Nothing-clause-appends g c = λ made.
    absurd (true≢false (sym made
    ∙ line-makes c.args.self.now c.args.line.now c.args.given given.Nothing c.requires.gives c.in-Nothing.is))

pub returns-in-Refused-clause-appends : goal.returns-in-Refused-clause-appends
returns-in-Refused-clause-appends g c = λ made.
    let rule = given.Refused c.in-Refused.rule in
    absurd (true≢false (sym made
    ∙ line-makes c.args.self.now c.args.line.now c.args.given rule c.requires.gives c.in-Refused.is))

pub returns-in_ok-reply-in-Ask-clause-appends : goal.returns-in_ok-reply-in-Ask-clause-appends
returns-in_ok-reply-in-Ask-clause-appends g c =
    let own = ask-of c.args.self.now c.args.line.now c.args.given c.in-Ask.command c.requires.gives c.in-Ask.is in
    appended g c.args.self.now c.judge_on.new.self c.args.line.now c.in-Ask.command c.args.station.now
    c.judge_on.new.station own c.in_ok-reply-in-Ask.ensures.appends

pub returns-in_ok-reply-in-Other-clause-appends : goal.returns-in_ok-reply-in-Other-clause-appends
returns-in_ok-reply-in-Other-clause-appends g c =
    let own = other-of c.args.self.now c.args.line.now c.args.given c.in-Other.command c.requires.gives c.in-Other.is in
    appended g c.args.self.now c.judge_on-in-Other.new.self c.args.line.now c.in-Other.command c.args.station.now
    c.judge_on-in-Other.new.station own c.in_ok-reply-in-Other.ensures.appends

-- ---- where the disk failed

pub returns-in_err-reply-in-Ask-clause-written : goal.returns-in_err-reply-in-Ask-clause-written
returns-in_err-reply-in-Ask-clause-written g c = λ is.
    let s : SessionState = c.args.self.now in
    let command = c.in-Ask.command in
    let made : makes_judged s.held command (judged s.held command) ≡ true =
    grind (arith, c.judge_on.ensures.written) in
    (ask-of s c.args.line.now c.args.given command c.requires.gives c.in-Ask.is).makes ∙ made

pub returns-in_err-reply-in-Other-clause-written : goal.returns-in_err-reply-in-Other-clause-written
returns-in_err-reply-in-Other-clause-written g c = λ is.
    let s : SessionState = c.args.self.now in
    let command = c.in-Other.command in
    let made : makes_judged s.held command (judged s.held command) ≡ true =
    grind (arith, c.judge_on-in-Other.ensures.written) in
    (other-of s c.args.line.now c.args.given command c.requires.gives c.in-Other.is).makes ∙ made

-- ---- what is kept of nodes

pub returns-in-Nothing-clause-stored : goal.returns-in-Nothing-clause-stored
returns-in-Nothing-clause-stored g c =
    stored-blank c.args.self.now c.args.self.now c.args.line.now
    (subst (λ (x : Given). LineGives c.args.line.now x) c.in-Nothing.is c.requires.gives) refl

pub returns-in-Refused-clause-stored : goal.returns-in-Refused-clause-stored
returns-in-Refused-clause-stored g c =
    let gives = subst (λ (x : Given). LineGives c.args.line.now x) c.in-Refused.is c.requires.gives in
    stored-read c.args.self.now c.args.self.now c.args.line.now (Err c.in-Refused.rule) gives.0 gives.1 refl

pub returns-in_ok-reply-in-Ask-clause-stored : goal.returns-in_ok-reply-in-Ask-clause-stored
returns-in_ok-reply-in-Ask-clause-stored g c =
    let own = ask-of c.args.self.now c.args.line.now c.args.given c.in-Ask.command c.requires.gives c.in-Ask.is in
    stored-read c.args.self.now c.judge_on.new.self c.args.line.now (Ok c.in-Ask.command) own.full own.read
    c.in_ok-reply-in-Ask.ensures.stored

pub returns-in_ok-reply-in-Other-clause-stored : goal.returns-in_ok-reply-in-Other-clause-stored
returns-in_ok-reply-in-Other-clause-stored g c =
    let own = other-of c.args.self.now c.args.line.now c.args.given c.in-Other.command c.requires.gives c.in-Other.is in
    stored-read c.args.self.now c.judge_on-in-Other.new.self c.args.line.now (Ok c.in-Other.command) own.full own.read
    c.in_ok-reply-in-Other.ensures.stored

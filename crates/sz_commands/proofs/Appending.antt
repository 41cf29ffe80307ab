-- Which lines of a session are written to its log, and as what.
--
-- The key idea: whether a line makes something durable is known from what it gives, and of what it gives from the
-- command and the rules. So each step of the code is where one of these tests is known.
use Rattle.std.proofs.Common.{◌≡◌, ℕ, List, [], Bool, true, false, refl, sym, ap, ◌∙◌, subst, true≢false}
use Rattle.std.proofs.Common.{Option, None, Some, not}
use Rattle.std.specs.Prelude.{if◌then◌else◌, Result, Ok}
use Rattle.sz_outside.specs.Disk.{Told}
use Rattle.sz_outside.specs.declared.stations.Station.{Ghosts}
use Rattle.sz_log.specs.Log.{LogGroup}
use Rattle.sz_log.specs.Steps.{Added, place_behind}
use Rattle.sz_script.specs.Reading.{reading}
use Rattle.sz_script.specs.declared.refusal.Refusal.{Refusal}
use Rattle.sz_script.specs.declared.command.Command.{Command}
use Rattle.sz_script.specs.declared.command.Command.TheVariants as order
use Rattle.sz_catalogue.specs.Holdings.{Holdings}
use Rattle.sz_catalogue.specs.Rules.{judged, version_of}
use Rattle.sz_recover.specs.Logs.{is_of_kind}
use Rattle.sz_commands.specs.Lines.{is_blank}
use Rattle.sz_commands.specs.Given.{LineGives}
use Rattle.sz_commands.specs.Logged.{lasts, is_refresh, makes, makes_judged, makes_read, makes_durable}
use Rattle.sz_commands.specs.Logged.{IsLineGroup, IsVersionGroup, IsGroupFor, IsGroupOf, Appends}
use Rattle.sz_commands.specs.declared.session.Given.{Given}
use Rattle.sz_commands.specs.declared.session.Given.TheVariants as given
use Rattle.sz_commands.specs.States.{LogPlace}
use Rattle.sz_commands.proofs.Logged.{ending}
use Rattle.sz_commands.proofs.Stops.{told-more}
use Rattle.sz_versions.proofs.Keeps.{not_false}

-- ---- the group that is added

-- a group that was added where the log ended, behind which it ends
pub group-added : {X : Type 0} (T : Ghosts X) (IsSuch : ℕ → LogGroup → Type 0) (end : Option LogPlace)
    (at : LogPlace) (next : ℕ) (e : LogGroup) (a b : X) → end ≡ Some at → IsSuch at.format e
    → Added (T.disk a) (T.disk b) at.gate e → Told (T.disk a) (next ≡ place_behind at.gate e)
    → Appends T IsSuch end (Some (ending at next)) a b
group-added {X} T IsSuch end at next e a b is such added place =
    subst (λ (o : Option LogPlace). Appends T IsSuch o (Some (ending at next)) a b) (sym is) (
      e,
      such,
      added,
      told-more (T.disk a) _ _
          (λ (p : next ≡ place_behind at.gate e). ap (λ (n : ℕ). Some (ending at n)) p)
          place,
    )

-- one that is of a further form
pub appends-as : {X : Type 0} (T : Ghosts X) (P Q : ℕ → LogGroup → Type 0) (end next : Option LogPlace) (a b : X)
    → ((format : ℕ) (e : LogGroup) → P format e → Q format e) → Appends T P end next a b → Appends T Q end next a b
appends-as {X} T P Q None next a b turn added = tt
appends-as {X} T P Q (Some at) next a b turn (e, such, added, place) = (e, turn at.format e such, added, place)

-- the line of a command that stands in groups of a kind is what the command makes durable
pub line-group : (c : Holdings) (line : List ℕ) (command : Command) (format : ℕ) (e : LogGroup)
    → IsLineGroup command line e → IsGroupFor c line command format e
line-group c line (order.Await n) format e such = absurd (true≢false (sym such.0))
line-group c line (order.Refresh n i set) format e such = absurd (true≢false (sym such.0))
line-group c line _ format e such = such

-- the group of a refresh is the same whatever its line
pub array-group : (c : Holdings) (line : List ℕ) (command : Command) (format : ℕ) (e : LogGroup)
    → is_refresh command ≡ true → IsGroupFor c [] command format e → IsGroupFor c line command format e
array-group c line (order.Refresh n i set) format e kind such = such
array-group c line _ format e kind such = absurd (true≢false (sym kind))

-- ---- commands

-- a refresh makes something durable
pub refresh-makes : (c : Holdings) (command : Command) → is_refresh command ≡ true → makes c command ≡ true
refresh-makes c (order.Refresh n i set) kind = refl
refresh-makes c _ kind = absurd (true≢false (sym kind))

-- the command of a group of lines makes something durable
pub line-makes : (c : Holdings) (kind : ℕ) (command : Command) → is_of_kind kind command ≡ true
    → makes c command ≡ true
line-makes c kind (order.Array name array) own = refl
line-makes c kind (order.Csv name array) own = refl
line-makes c kind (order.Layers name array) own = refl
line-makes c kind (order.Flow name flow) own = refl
line-makes c kind (order.Strategy name node list) own = refl
line-makes c kind _ own = absurd (true≢false (sym own))

-- one that does not last makes nothing durable
pub nothing-makes : (c : Holdings) (command : Command) → lasts command ≡ false → makes c command ≡ false
nothing-makes c (order.Await n) none = absurd (true≢false none)
nothing-makes c _ none = none

-- an await makes nothing durable where its version was awaited before, and else its version
pub await-idle : (c : Holdings) (command : Command) (n : ℕ) → command ≡ order.Await n → makes c command ≡ false
    → (version_of c n).awaited ≡ true
await-idle c command n is none = not_false (version_of c n).awaited (sym (ap (makes c) is) ∙ none)

pub await-makes : (c : Holdings) (command : Command) (n : ℕ) → command ≡ order.Await n → makes c command ≡ true
    → (version_of c n).awaited ≡ false
await-makes c command n is made = by (version_of c n).awaited (sym (ap (makes c) is) ∙ made) where
  by : (b : Bool) → not b ≡ true → b ≡ false
  by true h = sym h
  by false h = refl

-- so one whose version was not awaited makes that durable
pub await-writes : (c : Holdings) (command : Command) (n : ℕ) → command ≡ order.Await n
    → (version_of c n).awaited ≡ false → makes c command ≡ true
await-writes c command n is off = ap (makes c) is ∙ ap not off

pub await-group : (c : Holdings) (line : List ℕ) (command : Command) (n format : ℕ) (e : LogGroup)
    → command ≡ order.Await n → IsVersionGroup c n format e → IsGroupFor c line command format e
await-group c line command n format e is such =
    subst (λ (o : Command). IsGroupFor c line o format e) (sym is) such

-- ---- rules

-- where no rule refuses, a command makes what it does
pub free-makes : (c : Holdings) (command : Command) → judged c command ≡ None
    → makes_judged c command (judged c command) ≡ makes c command
free-makes c command free = ap (makes_judged c command) free

-- and where one does, nothing
pub refused-makes : (c : Holdings) (command : Command) (rule : Refusal) → judged c command ≡ Some rule
    → makes_judged c command (judged c command) ≡ false
refused-makes c command rule is = ap (makes_judged c command) is

-- ---- lines

-- a line that is not blank makes what it is read as does
filled-makes : (c : Holdings) (line : List ℕ) → is_blank line ≡ false
    → makes_durable c line ≡ makes_read c (reading line)
filled-makes c line full = ap (λ (b : Bool). if b then false else makes_read c (reading line)) full

-- whether what a line gives makes something durable
abbrev pub makes_given : Holdings → Given → Bool
makes_given c (given.Ask command) = makes_judged c command (judged c command)
makes_given c (given.Other command) = makes_judged c command (judged c command)
makes_given c _ = false

-- so does the line
pub given-makes : (c : Holdings) (line : List ℕ) (g : Given) → LineGives line g → makes_durable c line ≡ makes_given c g
given-makes c line given.Nothing blank =
    ap (λ (b : Bool). if b then false else makes_read c (reading line)) blank
given-makes c line (given.Refused rule) (full, read) = filled-makes c line full ∙ ap (makes_read c) read
given-makes c line (given.Ask ask) (full, read, is) = filled-makes c line full ∙ ap (makes_read c) read
given-makes c line (given.Other command) (full, read) = filled-makes c line full ∙ ap (makes_read c) read

-- the group of a command is that of a line that is read as it
pub read-group : (c : Holdings) (line : List ℕ) (command : Command) (format : ℕ) (e : LogGroup)
    → reading line ≡ Ok command → IsGroupFor c line command format e → IsGroupOf c line (reading line) format e
read-group c line command format e read such =
    subst (λ (r : Result Command Refusal). IsGroupOf c line r format e) (sym read) such

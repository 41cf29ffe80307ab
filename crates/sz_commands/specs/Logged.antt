-- A log beside its session: what the disk of the station is while a session of a log goes on, and
-- what a stop in the middle of a command leaves of it.
--
-- A session of a log holds versions that were started and not awaited yet; its log holds the same
-- but for these (`durable`). What a command makes durable is a group more of the log. Which stores
-- a log has kept is said for each list of stores that it may have kept before.
use Rattle.std.specs.Prelude.{◌≡◌, ◌⊎◌, ℕ, List, [], ◌∷◌, ◌++◌, Option, Some, None, ⊤}
use Rattle.std.specs.Prelude.{Bool, true, false, not, if◌then◌else◌, Result, Ok, Err}
use Rattle.sz_outside.specs.Disk.{Only, Said, Told}
use Rattle.sz_outside.specs.declared.stations.Station.{Ghosts}
use Rattle.sz_log.specs.Log.{LogGroup}
use Rattle.sz_log.specs.Steps.{Added, place_behind}
use Rattle.sz_script.specs.Reading.{reading}
use Rattle.sz_script.specs.declared.refusal.Refusal.{Refusal}
use Rattle.sz_script.specs.declared.command.Command.{Command}
use Rattle.sz_script.specs.declared.command.Command.TheVariants as command
use Rattle.sz_script.specs.declared.command.NewCell.{NewCell}
use Rattle.sz_writing.specs.Orders.{array_order}
use Rattle.sz_catalogue.specs.Holdings.{Holdings}
use Rattle.sz_catalogue.specs.Rules.{judged, version_of}
use Rattle.sz_catalogue.specs.Refreshes.{base_at, array_refreshed}
use Rattle.sz_recover.specs.Logs.{Kept, IsWellMade, IsMade, is_of_kind, version_kind}
use Rattle.sz_recover.specs.Growing.{durable}
use Rattle.sz_recover.specs.Soundness.{AreSoundKept}
use Rattle.sz_commands.specs.States.{SessionState, LogPlace}
use Rattle.sz_commands.specs.Transcript.{after_lines}
use Rattle.sz_commands.specs.Stops.{StopsFinding}
use Rattle.sz_commands.specs.Lines.{is_blank}
use Rattle.sz_versions.specs.Bodies.{IsSoundBody}
use Rattle.sz_recover.specs.declared.opening.Recovered.{Recovered}
use Rattle.sz_commands.specs.declared.open_log.OpenLog.{OpenLog}
use Rattle.sz_commands.specs.declared.logging.Lasting.{Lasting}
use Rattle.sz_commands.specs.declared.logging.Lasting.TheVariants as lasting

-- ---- the log that stands beside a session

-- the place of a log that is gone on from, and of one that was opened
abbrev pub place_of : OpenLog → LogPlace
place_of log = record { gate = log.end.at; format = log.format }

abbrev pub end_of : Recovered → LogPlace
end_of log = record { gate = log.end.at; format = log.format }

-- The disk is a well-made log of a format, whose first closed gate stands at a place, and which
-- holds what is durable of what is held; and no write is pending.
pub record IsLogOf {X : Type 0} (T : Ghosts X) (c : Holdings) (at : LogPlace) (x : X) : Type 0
  where
    pub kept : List Kept
    pub made : IsMade (T.disk x) at.gate at.format (durable c) kept
    pub synced : Only (T.disk x) (T.may_leave x)

-- of a session of a log, the station has it
abbrev pub HasLog : {X : Type 0} → Ghosts X → Holdings → Option LogPlace → X → Type 0
HasLog T c None x = ⊤
HasLog T c (Some at) x = IsLogOf T c at x

-- ---- how it grows

-- The disk is a well-made log of a format up to a place, which holds what is durable of d. It keeps
-- the stores that were kept when c was held, with more behind them; and where all of those stand
-- for the relation, all of these do.
pub record Grown (c : Holdings) (kept : List Kept) (disk : List ℕ) (at : LogPlace) (d : Holdings)
    : Type 0 where
  pub more : List Kept
  pub made : IsWellMade disk at.gate at.format (durable d) (kept ++ more)
  pub sound : AreSoundKept (durable c) kept → AreSoundKept (durable d) (kept ++ more)

-- so it is, whatever the log of c kept
abbrev pub GrowsTo : List ℕ → LogPlace → Holdings → List ℕ → LogPlace → Holdings → Type 0
GrowsTo disk at c new next d = (kept : List Kept)
    → IsWellMade disk at.gate at.format (durable c) kept
    → Grown c kept new next d

-- The log of a disk grew to one of what is held after; a disk that is not told stays so.
abbrev pub Grows : Option (List ℕ) → LogPlace → Holdings → Option (List ℕ) → LogPlace → Holdings
    → Type 0
Grows None at c new next d = new ≡ None
Grows (Some disk) at c new next d =
    (image : List ℕ) × (new ≡ Some image) × GrowsTo disk at c image next d

-- What a stop leaves of the log of c: a log of what is durable of c, or of d.
abbrev pub IsLeft : Holdings → List Kept → List ℕ → Holdings → Type 0
IsLeft c kept image d = (at : LogPlace) × Grown c kept image at d

abbrev pub LeavesLog : LogPlace → Holdings → Holdings → List ℕ → List ℕ → Type 0
LeavesLog at c d old image = (kept : List Kept) → IsWellMade old at.gate at.format (durable c) kept
    → IsLeft c kept image c ⊎ IsLeft c kept image d

-- ---- what a call does to it

-- The log grew, no write is pending, and it ends at this place.
pub record GoesOn {X : Type 0} (T : Ghosts X) (c : Holdings) (at : LogPlace) (d : Holdings)
    (next : LogPlace) (old new : X) : Type 0 where
  pub grows : Grows (T.disk old) at c (T.disk new) next d
  pub synced : Only (T.disk new) (T.may_leave new)

-- The same of a session before and after, by where its log ends; one of no log leaves the station.
abbrev pub KeepsLog : {X : Type 0} → Ghosts X → Holdings → Option LogPlace → Holdings
    → Option LogPlace → X → X → Type 0
KeepsLog T c None d None old new = new ≡ old
KeepsLog T c None d (Some next) old new = ⊥
KeepsLog T c (Some at) d None old new = ⊥
KeepsLog T c (Some at) d (Some next) old new = GoesOn T c at d next old new

-- At every moment of the call a stop leaves a log of what is durable of c or of d, and what was
-- said before; a session of no log leaves the station.
abbrev pub StopsInLog : {X : Type 0} → Ghosts X → Holdings → Option LogPlace → Holdings → X → X
    → Type 0
StopsInLog T c None d old new = new ≡ old
StopsInLog T c (Some at) d old new =
    StopsFinding T (LeavesLog at c d) (Said (T.said old)) old new

-- ---- a log that was opened

-- All that is held of a log that was opened is durable: its versions were awaited. So the log
-- stands beside the session of what it held.
abbrev pub OpenedLogsStand : Type 0
OpenedLogsStand = (disk : Option (List ℕ)) (at : LogPlace) (c : Holdings) (kept : List Kept)
    → IsMade disk at.gate at.format c kept → IsMade disk at.gate at.format (durable c) kept

-- ---- lines

-- what is held after a line: a blank one changes nothing
abbrev pub held_after : SessionState → List ℕ → Holdings
held_after s line = (after_lines s (line ∷ [])).held

-- ---- what lasts

-- the commands that make something durable: each of these is written to the log before its reply is
-- said, an await once
abbrev pub lasts : Command → Bool
lasts (command.Array name array) = true
lasts (command.Csv name array) = true
lasts (command.Layers name array) = true
lasts (command.Flow name flow) = true
lasts (command.Strategy name node list) = true
lasts (command.Refresh n i set) = true
lasts (command.Await n) = true
lasts _ = false

abbrev pub is_refresh : Command → Bool
is_refresh (command.Refresh n i set) = true
is_refresh _ = false

-- what is written: the line, in a group of a kind; the array that a refresh makes; the body of a
-- version; or nothing
abbrev pub IsLasting : Command → Lasting → Type 0
IsLasting order (lasting.Line kind) = is_of_kind kind order ≡ true
IsLasting order lasting.Array = is_refresh order ≡ true
IsLasting order (lasting.Version n) = order ≡ command.Await n
IsLasting order lasting.Nothing = lasts order ≡ false

-- ---- which lines are written, and how

-- whether a command that no rule refuses makes something durable: an await where its version was
-- not awaited before, and any other where it lasts
abbrev pub makes : Holdings → Command → Bool
makes c (command.Await n) = not (version_of c n).awaited
makes c order = lasts order

-- a command that a rule refuses makes nothing durable
abbrev pub makes_judged : Holdings → Command → Option Refusal → Bool
makes_judged c order None = makes c order
makes_judged c order (Some rule) = false

-- nor does a line that is read as no command, or a blank one
abbrev pub makes_read : Holdings → Result Command Refusal → Bool
makes_read c (Err rule) = false
makes_read c (Ok order) = makes_judged c order (judged c order)

abbrev pub makes_durable : Holdings → List ℕ → Bool
makes_durable c line = if is_blank line then false else makes_read c (reading line)

-- The group is the line of a command, in a group of its kind.
abbrev pub IsLineGroup : Command → List ℕ → LogGroup → Type 0
IsLineGroup order line e = (is_of_kind e.kind order ≡ true) × (e.body ≡ line)

-- The group is the body of a version in a log's format, with stores that stand for the relation.
abbrev pub IsVersionGroup : Holdings → ℕ → ℕ → LogGroup → Type 0
IsVersionGroup c n format e =
    (e.kind ≡ version_kind format) × IsSoundBody format n (version_of c n) e.body

-- The group is a line that holds the array which a refresh makes, under the name of the input in
-- whose place it comes: it is read as the command to hold it, and was no line of the session.
pub record IsArrayGroup (c : Holdings) (n i : ℕ) (set : List NewCell) (e : LogGroup) : Type 0 where
  pub kind : e.kind ≡ 1
  pub reads : reading e.body ≡ Ok (array_order (base_at (version_of c n) i).name
      (array_refreshed (version_of c n) i set))

-- The group is what the command of a line makes durable in a log of a format: of an await the body
-- of its version, of a refresh the line of its array, and of any other the line.
abbrev pub IsGroupFor : Holdings → List ℕ → Command → ℕ → LogGroup → Type 0
IsGroupFor c line (command.Await n) format e = IsVersionGroup c n format e
IsGroupFor c line (command.Refresh n i set) format e = IsArrayGroup c n i set e
IsGroupFor c line order format e = IsLineGroup order line e

abbrev pub IsGroupOf : Holdings → List ℕ → Result Command Refusal → ℕ → LogGroup → Type 0
IsGroupOf c line (Err rule) format e = ⊥
IsGroupOf c line (Ok order) format e = IsGroupFor c line order format e

-- where a log ends behind a group more, whose format stays
abbrev pub end_behind : LogPlace → LogGroup → LogPlace
end_behind at e = record at { gate = place_behind at.gate e }

-- One such group, in the log's format, was added to the log of a session, where that ended, and the
-- log ends behind it.
abbrev pub Appends : {X : Type 0} → Ghosts X → (ℕ → LogGroup → Type 0) → Option LogPlace
    → Option LogPlace → X → X → Type 0
Appends T IsSuch None next old new = ⊤
Appends T IsSuch (Some at) next old new = (e : LogGroup) × IsSuch at.format e
    × Added (T.disk old) (T.disk new) at.gate e
    × Told (T.disk old) (next ≡ Some (end_behind at e))

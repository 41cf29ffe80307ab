-- What the check of a log says, and what is known of the log by then. Nothing is claimed of a disk
-- that the station does not tell.
use Rattle.std.specs.Prelude.{◌≡◌, ◌⊎◌, ℕ, List, [], ◌∷◌, ◌++◌, length, codes, Option, None, Some}
use Rattle.std.specs.Prelude.{⊤, true, false}
use Rattle.sz_outside.specs.Outside.{Stood, Says, SaysPart}
use Rattle.sz_outside.specs.Disk.{Same}
use Rattle.sz_outside.specs.declared.stations.Station.{Ghosts}
use Rattle.sz_log.specs.Log.{begins_as_log}
use Rattle.sz_script.specs.Words.{name_of_strategy}
use Rattle.sz_catalogue.specs.Holdings.{Holdings}
use Rattle.sz_catalogue.specs.Responses.{number_text, word_text}
use Rattle.sz_recover.specs.Logs.{Kept, IsMade, IsNoLog, IsBroken, IsWellMade, IsFirstBad}
use Rattle.sz_recover.specs.Soundness.{TellsOfAll, HaveEachNode, EachStoreIsExact}
use Rattle.sz_recover.specs.declared.checking.WrongStore.{WrongStore}
use Rattle.sz_commands.specs.States.{LogPlace}
use Rattle.sz_commands.specs.Stops.{StopsFinding}

-- ---- the line

-- each store is sound: how many groups of versions the log has
abbrev pub sound_line : ℕ → List ℕ
sound_line count = codes "sound" ++ number_text count ++ 10 ∷ []

-- this store is not: its version and its node, and its strategy
abbrev pub node_words : WrongStore → List ℕ
node_words w =
    codes "unsound version" ++ (number_text w.version ++ (codes " node" ++ number_text w.node))

abbrev pub unsound_line : WrongStore → List ℕ
unsound_line w = node_words w ++ word_text (name_of_strategy w.s) ++ 10 ∷ []

-- what a check of so many says that found this
abbrev pub check_line : ℕ → Option WrongStore → List ℕ
check_line count None = sound_line count
check_line count (Some w) = unsound_line w

-- what is told of the stores that are kept, and the line that says so
abbrev pub TellsLine : Holdings → List Kept → List ℕ → Type 0
TellsLine c kept line = (wrong : Option WrongStore) × TellsOfAll c kept wrong
    × (line ≡ check_line (length kept) wrong)

-- The disk is a well-made log, and the line says of the stores that are kept of it, one entry for
-- each group of a version, whether all stand for exactly the relation, or the first that does not.
pub record IsLineOf (disk : Option (List ℕ)) (line : List ℕ) : Type 0 where
  pub at : ℕ
  pub format : ℕ
  pub c : Holdings
  pub kept : List Kept
  pub made : IsMade disk at format c kept
  pub tells : TellsLine c kept line

-- the line of the log was said
abbrev pub SaysLine : {X : Type 0} → Ghosts X → X → X → Type 0
SaysLine T old new = (line : List ℕ) × IsLineOf (T.disk old) line
    × Says (T.said old) (T.said new) line

-- a first part of it was
abbrev pub SaysPartOfLine : {X : Type 0} → Ghosts X → X → X → Type 0
SaysPartOfLine T old new = (line : List ℕ) × IsLineOf (T.disk old) line
    × SaysPart (T.said old) (T.said new) line

-- ---- which logs are checked

-- The disk does not begin as a log, and no fault of it was counted.
abbrev pub IsUnlike : {X : Type 0} → Ghosts X → X → X → Type 0
IsUnlike T old new = IsNoLog (T.disk old) × Stood (T.disk_faults old) (T.disk_faults new)

-- The disk is a log whose first bad group stands at a place, and no fault of it was counted.
abbrev pub IsBadLog : {X : Type 0} → Ghosts X → ℕ → X → X → Type 0
IsBadLog T at old new = IsBroken (T.disk old) at × Stood (T.disk_faults old) (T.disk_faults new)

-- Where the disk is told, and does not begin as a log, this is so.
abbrev pub IfNoLog : Option (List ℕ) → Type 0 → Type 0
IfNoLog None Claim = ⊤
IfNoLog (Some disk) Claim = begins_as_log disk ≡ false → Claim

-- Where the disk is told, and its first bad group stands at a place, this is so of the place.
abbrev pub IfBadLog : Option (List ℕ) → (ℕ → Type 0) → Type 0
IfBadLog None Claim = ⊤
IfBadLog (Some disk) Claim = (at : ℕ) → IsFirstBad disk at → Claim at

-- The disk is told, and is a well-made log.
abbrev pub IsWellMadeLog : Option (List ℕ) → Type 0
IsWellMadeLog None = ⊥
IsWellMadeLog (Some disk) =
    (at : LogPlace) × (c : Holdings) × (kept : List Kept) × IsWellMade disk at.gate at.format c kept

-- The disk is told, and begins as a log.
abbrev pub BeginsAsLog : Option (List ℕ) → Type 0
BeginsAsLog None = ⊥
BeginsAsLog (Some disk) = begins_as_log disk ≡ true

-- ---- the disk

-- The disk reads as before. What a stop leaves of it now, or left at a moment since, is an image
-- that a stop might have left before; and at each moment since, a first part was found said of the
-- line of the log, or of nothing.
pub record StopsChecking {X : Type 0} (T : Ghosts X) (old new : X) : Type 0 where
  pub reads : T.disk new ≡ T.disk old
  pub line : List ℕ
  pub line_is : (line ≡ []) ⊎ IsLineOf (T.disk old) line
  pub stops : StopsFinding T Same (λ found. SaysPart (T.said old) (Some found) line) old new

-- ---- laws

-- One line is told of what is kept.
abbrev pub OneLineIsTold : Type 0
OneLineIsTold = (c : Holdings) (kept : List Kept) (line other : List ℕ)
    → TellsLine c kept line → TellsLine c kept other → line ≡ other

-- Where it is the line of a sound log, each store stands for exactly the relation of its operator.
abbrev pub SoundLinesMeanEach : Type 0
SoundLinesMeanEach = (c : Holdings) (kept : List Kept) → TellsLine c kept (sound_line (length kept))
    → HaveEachNode c kept × EachStoreIsExact c kept

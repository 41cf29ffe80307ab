-- What a log holds: its groups act on what is held, one after another, from nothing on.
--
-- A group of kind 1 is a line that holds an array, one of kind 2 a line that holds a flow, and one
-- of kind 3 a line that sets strategies: it acts as that line does. A group of kind 4 is the body
-- of a version in format 1, and one of kind 6 that of a version in format 2: it adds the version
-- awaited, with its stores. A log begins in format 1, and a group of kind 5 raises it to format 2,
-- once. Any other group is bad.
use Rattle.std.specs.Prelude.{◌≡◌, ◌⊎◌, ℕ, ◌+◌, ◌<◌, List, [], ◌∷◌, ◌++◌, length, Bool, true, false}
use Rattle.std.specs.Prelude.{◌&&◌, ◌==◌, if◌then◌else◌, Option, Some, None, is_none, ⊤}
use Rattle.std.specs.Prelude.{Result, Ok, Err}
use Rattle.std.specs.Int.{w64, to_be_bytes}
use Rattle.sz_outside.specs.Disk.{bytes_at}
use Rattle.sz_log.specs.Log.{LogGroup, begins_as_log}
use Rattle.sz_log.specs.Laws.{Reads}
use Rattle.sz_log.specs.Places.{group_on, StandsAt}
use Rattle.sz_log.specs.Steps.{place_behind}
use Rattle.sz_log.specs.declared.groups.Group.TheVariants as group
use Rattle.sz_script.specs.Reading.{reading}
use Rattle.sz_script.specs.declared.command.Command.{Command}
use Rattle.sz_script.specs.declared.command.Command.TheVariants as command
use Rattle.sz_script.specs.declared.refusal.Refusal.{Refusal}
use Rattle.sz_store.specs.Kept.{NodeLineage}
use Rattle.sz_catalogue.specs.Holdings.{Version, Holdings, no_holdings}
use Rattle.sz_catalogue.specs.Rules.{judged}
use Rattle.sz_catalogue.specs.Changes.{accepted, with_version}
use Rattle.sz_bodies.specs.Fitting.{Fit, body_of}
use Rattle.sz_bodies.specs.Lawful.{IsLawful, version_said}
use Rattle.sz_recover.specs.declared.opening.RecoverFault.{RecoverFault}
use Rattle.sz_recover.specs.declared.opening.RecoverFault.TheVariants as fault
use Rattle.sz_recover.specs.declared.opening.Next.{Next}
use Rattle.sz_recover.specs.declared.opening.Next.TheVariants as found

-- ---- what a group does

-- a line of a command stands in groups of this kind
abbrev pub is_of_kind : ℕ → Command → Bool
is_of_kind kind (command.Array name array) = kind == 1
is_of_kind kind (command.Csv name array) = kind == 1
is_of_kind kind (command.Layers name array) = kind == 1
is_of_kind kind (command.Flow name flow) = kind == 2
is_of_kind kind (command.Strategy name node list) = kind == 3
is_of_kind kind _ = false

-- what is held behind a line of a kind: nothing where it is no command of the kind, or is refused
abbrev pub held_by : Holdings → ℕ → Result Command Refusal → Option Holdings
held_by c kind (Err rule) = None
held_by c kind (Ok order) = if is_of_kind kind order && is_none (judged c order)
    then Some (accepted c order).0 else None

abbrev pub held_behind : Holdings → LogGroup → Option Holdings
held_behind c e = held_by c e.kind (reading e.body)

-- a version with its stores, by its number
pub record Kept : Type 0 where
  pub number : ℕ
  pub stores : List (Option NodeLineage)

-- the group is a line, which is taken; no stores are kept of it
pub record ActsAsLine (c : Holdings) (e : LogGroup) (d : Holdings) (kept : List Kept) : Type 0 where
  pub held : held_behind c e ≡ Some d
  pub none : kept ≡ []

-- the kind of a version's group in a format
abbrev pub version_kind : ℕ → ℕ
version_kind format = if format == 2 then 6 else 4

-- the group is the lawful body of a version with these stores in the log's format, which is added
pub record ActsAsVersion (format : ℕ) (c : Holdings) (e : LogGroup) (d : Holdings)
    (kept : List Kept) : Type 0 where
  pub kind : e.kind ≡ version_kind format
  pub one : Kept
  pub version : Version
  pub fit : Fit version one.stores
  pub lawful : IsLawful format c (body_of one.number version one.stores) e.body
  pub said : version ≡ version_said c (body_of one.number version one.stores)
  pub held : d ≡ with_version c one.number version
  pub kept_is : kept ≡ one ∷ []

-- the group has no byte and stands in a log of format 1; nothing is held or kept of it
pub record ActsAsUpgrade (format : ℕ) (c : Holdings) (e : LogGroup) (d : Holdings)
    (kept : List Kept) : Type 0 where
  pub kind : e.kind ≡ 5
  pub bare : e.body ≡ []
  pub first : format ≡ 1
  pub held : d ≡ c
  pub none : kept ≡ []

-- the format of the log behind a group
abbrev pub format_behind : ℕ → LogGroup → ℕ
format_behind format e = if e.kind == 5 then 2 else format

-- the format and what is held before a group and behind it, and the stores that are kept of it
abbrev pub Acts : ℕ → Holdings → LogGroup → ℕ → Holdings → List Kept → Type 0
Acts format c e after d kept = (after ≡ format_behind format e)
    × (ActsAsLine c e d kept
    ⊎ (ActsAsVersion format c e d kept ⊎ ActsAsUpgrade format c e d kept))

abbrev pub IsBad : ℕ → Holdings → LogGroup → Type 0
IsBad format c e = (after : ℕ) (d : Holdings) (kept : List Kept)
    → Acts format c e after d kept → ⊥

-- the same of groups one after another
abbrev pub ActEach : ℕ → Holdings → List LogGroup → ℕ → Holdings → List Kept → Type 0
ActEach format c [] after d kept = (after ≡ format) × (d ≡ c) × (kept ≡ [])
ActEach format c (e ∷ es) after d kept = (between : ℕ) × (mid : Holdings) × (first : List Kept)
    × (rest : List Kept) × Acts format c e between mid first
    × ActEach between mid es after d rest × (kept ≡ first ++ rest)

-- ---- well-made logs

-- the length of the group stands behind its gate and its kind as it is written
abbrev pub IsSpelled : List ℕ → ℕ → LogGroup → Type 0
IsSpelled disk at e = bytes_at disk (at + 2) 8 ≡ to_be_bytes w64 (length e.body)

-- the same of groups one behind another
abbrev pub AreSpelled : List ℕ → ℕ → List LogGroup → Type 0
AreSpelled disk at [] = ⊤
AreSpelled disk at (e ∷ es) = IsSpelled disk at e × AreSpelled disk (place_behind at e) es

-- The disk begins as a log, and its groups are read up to a closed gate at a place, their lengths
-- as they are written; each acts on what those before it leave, from format 1 and nothing on, and
-- in the end the log has this format, this is held, and these stores are kept.
pub record IsWellMade (disk : List ℕ) (at format : ℕ) (c : Holdings) (kept : List Kept)
    : Type 0 where
  pub header : begins_as_log disk ≡ true
  pub entries : List LogGroup
  pub read : Reads disk 16 entries at
  pub spelled : AreSpelled disk 16 entries
  pub acts : ActEach 1 no_holdings entries format c kept

-- the group stands at a place of the disk
abbrev pub Stands : List ℕ → ℕ → LogGroup → Type 0
Stands disk at e =
    (group_on disk at ≡ group.Whole e.kind (at + 10) (length e.body) (place_behind at e))
    × (bytes_at disk (at + 10) (length e.body) ≡ e.body) × IsSpelled disk at e

-- from a place on these groups stand one behind another, up to a place
abbrev pub StandEach : List ℕ → ℕ → List LogGroup → ℕ → Type 0
StandEach disk at [] end = at ≡ end
StandEach disk at (e ∷ es) end = Stands disk at e × StandEach disk (place_behind at e) es end

-- a bad group stands at a place: there is no gate, or no whole group behind an open one, or one
-- that is bad in the format over what is held
abbrev pub IsBadAt : List ℕ → ℕ → ℕ → Holdings → Type 0
IsBadAt disk at format c =
    (group_on disk at ≡ group.Bad) ⊎ ((e : LogGroup) × Stands disk at e × IsBad format c e)

-- how far a log goes well: it begins as a log, and from byte 16 up to a place groups stand that act
-- one after another
pub record GoesWell (disk : List ℕ) (at format : ℕ) (c : Holdings) (kept : List Kept)
    : Type 0 where
  pub header : begins_as_log disk ≡ true
  pub entries : List LogGroup
  pub stand : StandEach disk 16 entries at
  pub acts : ActEach 1 no_holdings entries format c kept

-- The first bad group of a log stands at a place: the log goes well up to there.
pub record IsFirstBad (disk : List ℕ) (at : ℕ) : Type 0 where
  pub format : ℕ
  pub c : Holdings
  pub kept : List Kept
  pub before : GoesWell disk at format c kept
  pub bad : IsBadAt disk at format c

-- ---- what opening tells, where the disk is told

-- it is well made
abbrev pub IsMade : Option (List ℕ) → ℕ → ℕ → Holdings → List Kept → Type 0
IsMade None at format c kept = ⊤
IsMade (Some disk) at format c kept = IsWellMade disk at format c kept

-- it does not begin as a log
abbrev pub IsNoLog : Option (List ℕ) → Type 0
IsNoLog None = ⊤
IsNoLog (Some disk) = begins_as_log disk ≡ false

-- its first bad group stands at a place
abbrev pub IsBroken : Option (List ℕ) → ℕ → Type 0
IsBroken None at = ⊤
IsBroken (Some disk) at = IsFirstBad disk at

-- why it was not opened: it is no log, or its first bad group stands at this place; of a call that
-- failed and of want of memory nothing is said of the bytes
abbrev pub SaysWhy : Option (List ℕ) → RecoverFault → Type 0
SaysWhy disk fault.Failed = ⊤
SaysWhy disk fault.NotALog = IsNoLog disk
SaysWhy disk (fault.BadLog at) = IsBroken disk at
SaysWhy disk fault.NoMemory = ⊤

-- no call of the disk failed
abbrev pub has_read : {X : Type 0} → Result X RecoverFault → Bool
has_read (Ok x) = true
has_read (Err fault.Failed) = false
has_read (Err fault.NotALog) = true
has_read (Err (fault.BadLog at)) = true
has_read (Err fault.NoMemory) = true

-- the log goes well up to a place
abbrev pub IsSoFar : Option (List ℕ) → ℕ → ℕ → Holdings → List Kept → Type 0
IsSoFar None at format c kept = ⊤
IsSoFar (Some disk) at format c kept = GoesWell disk at format c kept

-- a group of this kind and with this body stands at a place, and behind it the next gate
abbrev pub IsEntryAt : Option (List ℕ) → ℕ → ℕ → List ℕ → ℕ → Type 0
IsEntryAt None at kind body next = ⊤
IsEntryAt (Some disk) at kind body next =
    let e : LogGroup = record { kind = kind; body = body } in
    Stands disk at e × (next ≡ place_behind at e)

-- what stands next
abbrev pub IsNext : Option (List ℕ) → ℕ → Next → Type 0
IsNext disk at found.End = StandsAt disk at group.Closed
IsNext disk at found.Bad = StandsAt disk at group.Bad
IsNext disk at (found.Entry kind body next) = IsEntryAt disk at kind body.items next

-- the next gate stands further on
abbrev pub IsFurther : ℕ → Next → Type 0
IsFurther at found.End = ⊤
IsFurther at found.Bad = ⊤
IsFurther at (found.Entry kind body next) = at < next

-- what is read next acts, and behind it is the next place; or nothing changes at a closed gate
abbrev pub TakesNext : Option (List ℕ) → ℕ → Option ℕ → ℕ → ℕ → Holdings → Holdings → List Kept
    → List Kept → Type 0
TakesNext None at next format after c d kept all = ⊤
TakesNext (Some disk) at None format after c d kept all =
    (group_on disk at ≡ group.Closed) × (after ≡ format) × (d ≡ c) × (all ≡ kept)
TakesNext (Some disk) at (Some next) format after c d kept all = (e : LogGroup)
    × Stands disk at e × (next ≡ place_behind at e) × (more : List Kept)
    × Acts format c e after d more × (all ≡ kept ++ more)

-- a bad group stands at this place
abbrev pub IsBadOn : Option (List ℕ) → ℕ → ℕ → Holdings → ℕ → Type 0
IsBadOn None at format c place = ⊤
IsBadOn (Some disk) at format c place = (place ≡ at) × IsBadAt disk at format c

-- why it is not taken: it is bad there
abbrev pub SaysBad : Option (List ℕ) → ℕ → ℕ → Holdings → RecoverFault → Type 0
SaysBad disk at format c fault.Failed = ⊤
SaysBad disk at format c fault.NotALog = ⊥
SaysBad disk at format c (fault.BadLog place) = IsBadOn disk at format c place
SaysBad disk at format c fault.NoMemory = ⊤

-- a fault that says nothing of the bytes
abbrev pub IsPlain : RecoverFault → Type 0
IsPlain fault.Failed = ⊤
IsPlain fault.NotALog = ⊥
IsPlain (fault.BadLog place) = ⊥
IsPlain fault.NoMemory = ⊤

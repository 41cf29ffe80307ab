-- What a stop in a call of the log leaves of an image that might have been left before it, and what
-- the calls answer.
use Rattle.std.specs.Prelude.{◌≡◌, ◌⊎◌, ℕ, ◌+◌, ◌≤◌, Bool, true, false, ⊤}
use Rattle.std.specs.Prelude.{Option, None, Some, List, [], ◌∷◌, ◌++◌, length, take, Result, Ok}
use Rattle.std.specs.Prelude.{Err}
use Rattle.sz_log.specs.Log.{LogGroup, IsLog, begins_as_log, empty_log, bar_to}
use Rattle.sz_log.specs.declared.LogEnd.{LogEnd}
use Rattle.sz_log.specs.declared.LogFault.{LogFault}
use Rattle.sz_log.specs.declared.LogFault.TheVariants as fault

-- The place behind a group whose gate stands at a place.
abbrev pub place_behind : ℕ → LogGroup → ℕ
place_behind at e = at + 10 + length e.body

-- A log whose closed gate stands at a place has this group behind its others.
abbrev pub Adds : ℕ → LogGroup → List ℕ → List ℕ → Type 0
Adds at e old new = (entries : List LogGroup) → IsLog old entries at
    → IsLog new (entries ++ e ∷ []) (place_behind at e)

-- It is without the group, or has it whole.
abbrev pub AddsOrKeeps : ℕ → LogGroup → List ℕ → List ℕ → Type 0
AddsOrKeeps at e old new = (entries : List LogGroup) → IsLog old entries at
    → IsLog new entries at ⊎ IsLog new (entries ++ e ∷ []) (place_behind at e)

-- The disk has the group in the end, where it is told; a disk that is not told stays so.
abbrev pub Added : Option (List ℕ) → Option (List ℕ) → ℕ → LogGroup → Type 0
Added None new at e = new ≡ None
Added (Some disk) new at e = (image : List ℕ) × (new ≡ Some image) × Adds at e disk image

-- Some bytes from the front stay.
abbrev pub KeepsFront : ℕ → List ℕ → List ℕ → Type 0
KeepsFront n old new = take n new ≡ take n old

-- At most 17 bytes that are no log.
abbrev pub IsShort : List ℕ → Type 0
IsShort image = (length image ≤ 17) × (begins_as_log image ≡ false)

-- An image is as it was, is short and no log, or is the empty log.
abbrev pub Makes : List ℕ → List ℕ → Type 0
Makes old new = (new ≡ old) ⊎ (IsShort new ⊎ (new ≡ empty_log))

-- An image is as it was, unless it was one to be made a log.
abbrev pub MakesIfFree : List ℕ → List ℕ → Type 0
MakesIfFree old new = (new ≡ old) ⊎ ((bar_to old ≡ None) × (IsShort new ⊎ (new ≡ empty_log)))

-- It was not the disk itself that failed.
abbrev pub is_no_failure : Result LogEnd LogFault → Bool
is_no_failure (Err fault.Failed) = false
is_no_failure _ = true

-- The call made the disk a log where nothing kept it from that, or says what did.
abbrev pub Judges : List ℕ → Result LogEnd LogFault → Type 0
Judges disk (Ok end) = bar_to disk ≡ None
Judges disk (Err fault.Failed) = ⊤
Judges disk (Err f) = bar_to disk ≡ Some f

abbrev pub JudgesTold : Option (List ℕ) → Result LogEnd LogFault → Type 0
JudgesTold None result = ⊤
JudgesTold (Some disk) result = Judges disk result

-- The disk is the empty log, where it was told before.
abbrev pub IsMade : Option (List ℕ) → Option (List ℕ) → Type 0
IsMade None new = ⊤
IsMade (Some disk) new = new ≡ Some empty_log

-- What was refused stays as it is.
abbrev pub Spares : Result LogEnd LogFault → Type 0 → Type 0
Spares (Err fault.AlreadyALog) Same = Same
Spares (Err fault.NotALog) Same = Same
Spares _ Same = ⊤

-- A log on a disk: a header, then groups behind gates, up to the first closed gate. What stands
-- behind that gate is not part of the log. Numbers have their highest byte first.
use Rattle.std.specs.Prelude.{◌≡◌, ◌≢◌, ℕ, ◌<◌, ◌^◌, ◌==◌, nat_lt, Bool, true, if◌then◌else◌, ⊤}
use Rattle.std.specs.Prelude.{Option, None, Some, List, [], ◌∷◌, ◌++◌, length, take}
use Rattle.std.specs.Prelude.{nat_eq}
use Rattle.std.specs.Cmp.Lexicographic.{pointwise}
use Rattle.std.specs.List.{list_any, flat_map, AllByRecursion}
use Rattle.std.specs.Int.{w64, to_be_bytes}
use Rattle.sz_log.specs.declared.LogFault.{LogFault}
use Rattle.sz_log.specs.declared.LogFault.TheVariants as fault

-- The kinds of group.
abbrev pub kinds : List ℕ
kinds = 1 ∷ 2 ∷ 3 ∷ 4 ∷ 5 ∷ 6 ∷ []

abbrev pub is_kind : ℕ → Bool
is_kind kind = list_any (λ k. k == kind) kinds

-- An open gate, and the 15 bytes of `SubZero log 1\r\n`.
abbrev pub header : List ℕ
header = 1 ∷ 83 ∷ 117 ∷ 98 ∷ 90 ∷ 101 ∷ 114 ∷ 111 ∷ 32 ∷ 108 ∷ 111 ∷ 103 ∷ 32 ∷ 49 ∷ 13 ∷ 10 ∷ []

abbrev pub begins_as_log : List ℕ → Bool
begins_as_log disk = pointwise nat_eq (take 16 disk) header

-- The empty log: the header and a closed gate.
abbrev pub empty_log : List ℕ
empty_log = header ++ 0 ∷ []

-- What a group is, wherever it stands.
pub record LogGroup : Type 0 where
  pub kind : ℕ
  pub body : List ℕ

-- The bytes behind a group's gate: its kind, eight bytes of its body's length, and its body.
abbrev pub bytes_behind_gate : LogGroup → List ℕ
bytes_behind_gate e = e.kind ∷ (to_be_bytes w64 (length e.body) ++ e.body)

-- A group with its gate open.
abbrev pub group_bytes : LogGroup → List ℕ
group_bytes e = 1 ∷ bytes_behind_gate e

-- It is of a kind of group, and its body's length has eight bytes.
abbrev pub IsLogGroup : LogGroup → Type 0
IsLogGroup e = (is_kind e.kind ≡ true) × (length e.body < 2 ^ 64)

-- The bytes of a log up to its first closed gate.
abbrev pub log_bytes : List LogGroup → List ℕ
log_bytes entries = header ++ flat_map group_bytes entries

-- The disk is a log with these groups, whose first closed gate stands at a place.
pub record IsLog (disk : List ℕ) (entries : List LogGroup) (at : ℕ) : Type 0 where
  pub gate : ℕ
  pub behind : List ℕ
  pub closed : gate ≢ 1
  pub bytes : disk ≡ log_bytes entries ++ gate ∷ behind
  pub place : at ≡ length (log_bytes entries)
  pub each : AllByRecursion IsLogGroup entries

-- The disk is a log whose first closed gate stands at a place, whatever its groups.
abbrev pub EndsAt : Option (List ℕ) → ℕ → Type 0
EndsAt None at = ⊤
EndsAt (Some disk) at = (entries : List LogGroup) × IsLog disk entries at

-- What keeps a disk from being made a log: it begins as one, or has more than 17 bytes.
abbrev pub bar_to : List ℕ → Option LogFault
bar_to disk = if begins_as_log disk then Some fault.AlreadyALog
    else if nat_lt 17 (length disk) then Some fault.NotALog else None

-- What a source and a station tell of one call: whether a fault was counted, which bytes were read,
-- and which were said. Bytes that are told are `Some` of them. A source or station that tells
-- nothing has `None`, and then nothing is claimed of its bytes.
use Rattle.std.specs.Prelude.{◌≡◌, ℕ, ◌+◌, ◌-◌, ◌^◌, ◌<◌, ◌≤◌, min, ⊤}
use Rattle.std.specs.Prelude.{Option, None, Some, List, [], ◌++◌, length, take, drop}

-- The count rose in the call, or stands at the end of its type.
abbrev pub Rose : ℕ → ℕ → Type 0
Rose before now = min (before + 1) (2 ^ 64 - 1) ≤ now

-- The count stands as it did before the call.
abbrev pub Stood : ℕ → ℕ → Type 0
Stood before now = now ≡ before

-- A read gave the next n of the bytes that were left, at the front of what `into` now holds, and no
-- byte was lost. It gave none into a buffer with room only where none were left.
pub record GivesNext (old : List ℕ) (new : Option (List ℕ)) (into : List ℕ) (n : ℕ) : Type 0 where
  pub left : new ≡ Some (drop n old)
  pub fits : n ≤ length old
  pub bytes : take n into ≡ take n old
  pub end : 0 < length into → n ≡ 0 → old ≡ []

-- A read gave n bytes into a buffer: the next ones, where the source tells what it has left.
abbrev pub Gives : Option (List ℕ) → Option (List ℕ) → List ℕ → ℕ → Type 0
Gives None new into n = ⊤
Gives (Some bytes) new into n = GivesNext bytes new into n

-- The bytes that are told are the same as before.
abbrev pub Keeps : Option (List ℕ) → Option (List ℕ) → Type 0
Keeps None new = ⊤
Keeps (Some bytes) new = new ≡ Some bytes

-- These bytes were said, behind what was said before.
abbrev pub Says : Option (List ℕ) → Option (List ℕ) → List ℕ → Type 0
Says None new bytes = ⊤
Says (Some said) new bytes = new ≡ Some (said ++ bytes)

-- The first of these bytes were said, however many, behind what was said before.
abbrev pub SaysPart : Option (List ℕ) → Option (List ℕ) → List ℕ → Type 0
SaysPart None new bytes = ⊤
SaysPart (Some said) new bytes = (n : ℕ) × (n ≤ length bytes) × (new ≡ Some (said ++ take n bytes))

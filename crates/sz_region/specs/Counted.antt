-- Bytes of things one after another, with their number before them, and where such bytes stand in
-- others.
use Rattle.std.specs.Prelude.{◌≡◌, ℕ, ◌≤◌, List, ◌++◌, length, drop}
use Rattle.std.specs.List.{flat_map}
use Rattle.sz_cells.specs.SetBytes.{four_bytes}

-- four bytes for how many things there are, and the bytes of each
abbrev pub counted : {X : Type 0} → (X → List ℕ) → List X → List ℕ
counted word xs = four_bytes (length xs) ++ flat_map word xs

-- rows of numbers of four bytes each, and how many rows there are
abbrev pub rows_bytes : List (List ℕ) → List ℕ
rows_bytes rows = counted (flat_map four_bytes) rows

-- these bytes stand at a place, and end before another
pub record IsAt (bytes : List ℕ) (at next : ℕ) (word : List ℕ) : Type 0 where
  pub spelled : drop at bytes ≡ word ++ drop next bytes
  pub within : next ≤ length bytes

-- Numbers in bytes, the highest byte first.
use Rattle.std.specs.Prelude.{ℕ, ◌+◌, List, [], ◌∷◌, slice_index}
use Rattle.std.specs.Int.{w32, w64, from_be_bytes}

-- the number of the four bytes at a place
abbrev pub four_at : List ℕ → ℕ → ℕ
four_at bytes at = from_be_bytes w32 (slice_index bytes at ∷ slice_index bytes (at + 1)
    ∷ slice_index bytes (at + 2) ∷ slice_index bytes (at + 3) ∷ [])

-- the number of the eight bytes at a place
abbrev pub eight_at : List ℕ → ℕ → ℕ
eight_at bytes at = from_be_bytes w64 (slice_index bytes at ∷ slice_index bytes (at + 1)
    ∷ slice_index bytes (at + 2) ∷ slice_index bytes (at + 3) ∷ slice_index bytes (at + 4)
    ∷ slice_index bytes (at + 5) ∷ slice_index bytes (at + 6) ∷ slice_index bytes (at + 7) ∷ [])

-- What contracts see of a shelf's store: its tag, the pieces that are placed, and whether it is
-- sealed.
use Rattle.std.specs.Prelude.{◌==◌, ℕ, List, Bool, not, Option, unwrap_or}
use Rattle.std.specs.List.{list_any, find, range_with_len}
use Rattle.sz_shelf.specs.Tags.{Tag}

-- the tag, the pieces that are placed, in their order, and whether the store is sealed
pub record Contents : Type 0 where
  pub tag : Tag
  pub placed : List ℕ
  pub sealed : Bool

-- the piece is among those of a list
abbrev pub is_in : List ℕ → ℕ → Bool
is_in placed piece = list_any (λ j. j == piece) placed

-- the least piece below a number of pieces that is not among those of a list
abbrev pub missing_in : ℕ → List ℕ → Option ℕ
missing_in pieces placed = find (λ k. not (is_in placed k)) (range_with_len 0 pieces)

-- the same, or the number of pieces where there is none
abbrev pub least_missing : ℕ → List ℕ → ℕ
least_missing pieces placed = unwrap_or (missing_in pieces placed) pieces

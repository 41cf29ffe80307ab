-- Strips: some columns of an array, written as rows.
use Rattle.std.specs.Prelude.{◌≡◌, ℕ, ℤ, ◌+◌, ◌*◌, ◌<◌, List, Option, None, slice_index_or}

-- Of so many columns next to one another, the first n rows are in the strip: row r of column j at
-- row j and column r of the strip, which has `height` columns. The cells have `cols` columns, and
-- the first cell of the first column has index `first`.
abbrev pub IsStrip : List (Option ℤ) → List (Option ℤ) → ℕ → ℕ → ℕ → ℕ → ℕ → Type 0
IsStrip cells strip height cols first wide n = (j r : ℕ) → j < wide → r < n
    → slice_index_or strip (j * height + r) None ≡ slice_index_or cells (first + r * cols + j) None

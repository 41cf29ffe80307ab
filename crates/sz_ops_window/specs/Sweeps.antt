-- Sums of a whole row under a kernel, tap by tap.
use Rattle.std.specs.Prelude.{◌≡◌, ℕ, ℤ, pos, ◌+◌, ◌-◌, ◌*◌, ◌/◌, ◌<◌, ◌≤◌, nat_le, Bool, true}
use Rattle.std.specs.Prelude.{false}
use Rattle.std.specs.Prelude.{List, Option, Some, None, if◌then◌else◌, slice_index_or, length}
use Rattle.std.specs.Prelude.{is_none}
use Rattle.std.specs.Int.RustNames.{unsigned_abs}
use Rattle.sz_spec.specs.Values.{Grid}
use Rattle.sz_spec.specs.Weights.{Weights}
use Rattle.sz_ops_window.specs.Sums.{reach_of, sum_from}

-- the value is empty, or a number of at most so much
abbrev pub is_small : ℕ → Option ℤ → Bool
is_small most None = true
is_small most (Some z) = nat_le (unsigned_abs z) most

-- the number of a value, where it is small, and else 0
abbrev pub number_of : ℕ → Option ℤ → ℤ
number_of most None = pos 0
number_of most (Some z) = if nat_le (unsigned_abs z) most then z else pos 0

-- of each value its number
abbrev pub AreNumbers : ℕ → List (Option ℤ) → List ℤ → Type 0
AreNumbers most cells numbers = (length numbers ≡ length cells) × ((k : ℕ) → k < length cells
    → slice_index_or numbers k (pos 0) ≡ number_of most (slice_index_or cells k None))

-- of each value whether it is empty
abbrev pub AreVoids : List (Option ℤ) → List Bool → Type 0
AreVoids cells voids = (length voids ≡ length cells) × ((k : ℕ) → k < length cells
    → slice_index_or voids k false ≡ is_none (slice_index_or cells k None))

-- a row of so many columns has no empty cell, as the marks of the cells say
abbrev pub IsWhole : ℕ → List Bool → ℕ → Type 0
IsWhole cols voids row =
    (x : ℕ) → x < cols → slice_index_or voids (row * cols + x) false ≡ false

-- the rows that are marked have no empty cell
abbrev pub AreWhole : ℕ → List Bool → List Bool → Type 0
AreWhole cols voids whole =
    (row : ℕ) → slice_index_or whole row false ≡ true → IsWhole cols voids row

-- each cell of a row is empty, or holds a small number
abbrev pub IsPlain : ℕ → Grid → ℕ → Type 0
IsPlain most g row = (x : ℕ) → x < g.extent.cols
    → is_small most (slice_index_or g.values (row * g.extent.cols + x) None) ≡ true

-- the rows that are marked are plain
abbrev pub ArePlain : ℕ → Grid → List Bool → Type 0
ArePlain most g plain = (row : ℕ) → slice_index_or plain row false ≡ true → IsPlain most g row

-- where the middle of the kernel lies on a row, all rows of its layer under the kernel are plain
abbrev pub IsSmooth : ℕ → Grid → Weights → ℕ → Type 0
IsSmooth most g w row = (k : ℕ) → (reach_of g.extent w (record { row = row; col = 0 })).top ≤ k
    → k < (reach_of g.extent w (record { row = row; col = 0 })).bottom
    → IsPlain most g ((row + k) - w.rows / 2)

-- nothing, or a number
abbrev pub unless : Bool → ℤ → Option ℤ
unless void z = if void then None else Some z

-- at each cell of a row, what the first n taps add: nothing where it is marked, and else a number,
-- of which none is larger than so much
abbrev pub AreSums : Grid → Weights → ℕ → ℕ → ℕ → List ℤ → List Bool → Type 0
AreSums g w row n most sums marks = (c : ℕ) → c < g.extent.cols
    → (unless (slice_index_or marks c false) (slice_index_or sums c (pos 0))
    ≡ sum_from g w (record { row = row; col = c }) 0 n)
    × (unsigned_abs (slice_index_or sums c (pos 0)) ≤ n * most)

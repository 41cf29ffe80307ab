-- Numbers that name cells, by their indexes counted from a first number: a label names the first
-- cell of its region, counted from 1, and a key of a lookup a cell of the table, counted from 0.
use Rattle.std.specs.Prelude.{◌≡◌, ◌≤◌, ◌<◌, ℕ, ◌+◌, ◌-◌, ℤ, pos, negsuc, List, Bool, true, false}
use Rattle.std.specs.Prelude.{◌&&◌, ◌||◌, ◌==◌}
use Rattle.std.specs.Prelude.{nat_le, nat_lt, if◌then◌else◌, Option, Some, None}
use Rattle.std.specs.Prelude.{option_map, option_and_then, slice_index_or}
use Rattle.std.specs.List.{list_any}
use Rattle.sz_cells.specs.declared.Cell.{Cell}
use Rattle.sz_cells.specs.Extent.{size_of, cell_of}
use Rattle.sz_cells.specs.Cells.{Cells}
use Rattle.sz_spec.specs.Values.{Grid, value_at}

-- the index that a number names, of so many, counted from a first number
abbrev pub index_above : ℕ → ℕ → ℤ → Option ℕ
index_above first count (pos n) =
    if nat_le first n && nat_lt (n - first) count then Some (n - first) else None
index_above first count (negsuc n) = None

-- and a value: that of its number
abbrev pub named : ℕ → ℕ → Option ℤ → Option ℕ
named first count v = option_and_then (index_above first count) v

-- an index is there, and it is this one
abbrev pub is_at : Option ℕ → ℕ → Bool
is_at None k = false
is_at (Some j) k = k == j

-- a set has the cell that a value names
abbrev pub has_named : ℕ → Option ℤ → Cells → Bool
has_named first v set = list_any (is_at (named first (size_of set.extent) v)) set.indexes

-- the value of an index, in one of two lists, names a cell of the set of that list
abbrev pub is_named : ℕ → List (Option ℤ) → Cells → List (Option ℤ) → Cells → ℕ → Bool
is_named first old old_set new new_set k = has_named first (slice_index_or old k None) old_set
    || has_named first (slice_index_or new k None) new_set

-- the indexes of a set lie from a least to a last one
abbrev pub LieWithin : ℕ → ℕ → Cells → Type 0
LieWithin least last set = (k : ℕ) → list_any (λ i. i == k) set.indexes ≡ true
    → (least ≤ k) × (k ≤ last)

-- behind a gap of so many places that name none, where it lies behind all indexes of the sets, no
-- place below a size names one
abbrev pub EndAfter :
    ℕ → ℕ → List (Option ℤ) → Cells → List (Option ℤ) → Cells → ℕ → Type 0
EndAfter gap first old old_set new new_set size = (w k : ℕ)
    → ((j : ℕ) → list_any (λ i. i == j) old_set.indexes ≡ true → j < w)
    → ((j : ℕ) → list_any (λ i. i == j) new_set.indexes ≡ true → j < w)
    → ((j : ℕ) → w ≤ j → j < w + gap → is_named first old old_set new new_set j ≡ false)
    → w + gap ≤ k → k < size → is_named first old old_set new new_set k ≡ false

-- the cell that the label of a cell names
abbrev pub first_of : Grid → Cell → Option Cell
first_of labels x =
    option_map (cell_of labels.extent) (named 1 (size_of labels.extent) (value_at labels x))

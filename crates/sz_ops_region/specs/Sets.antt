-- The sets of the cells of each number, and how they are made from runs.
use Rattle.std.specs.Prelude.{◌≡◌, ℕ, ◌<◌, ◌&&◌, ◌==◌, nat_lt, Bool, false, List, [], ◌∷◌}
use Rattle.std.specs.Prelude.{map, length, slice_index_or, Option, Some, None}
use Rattle.std.specs.List.{filter, range_with_len}
use Rattle.sz_cells.specs.declared.Run.{Run}
use Rattle.sz_cells.specs.Extent.{Extent, size_of}
use Rattle.sz_cells.specs.Cells.{Cells, no_cells}
use Rattle.sz_cells.specs.Runs.{AreRunsFrom, covers}
use Rattle.sz_ops_region.specs.declared.marks.Mark.{Mark}
use Rattle.sz_ops_region.specs.declared.marks.Mark.TheVariants.{Low, Alone, Numbered}
use Rattle.sz_ops_region.specs.Marks.{mark_at, number_of}

-- the number is there, and is this one
abbrev pub is_number : Option ℕ → ℕ → Bool
is_number None j = false
is_number (Some i) j = i == j

-- the cells of a shape that have a number
abbrev pub cells_numbered : Extent → List Mark → ℕ → Cells
cells_numbered e marks j = record {
  extent = e;
  indexes = filter (λ k. is_number (number_of marks k) j) (range_with_len 0 (size_of e));
}

-- the component of the cell of an index by its mark, and by the sets of all numbers: none where
-- the cell is not high
abbrev pub set_of : Extent → List Cells → ℕ → Mark → Cells
set_of e sets k Low = no_cells e
set_of e sets k Alone = record { extent = e; indexes = k ∷ [] }
set_of e sets k (Numbered j) = slice_index_or sets j (no_cells e)

-- the component of each cell of a shape
abbrev pub sets_by : Extent → List Cells → List Mark → List Cells
sets_by e sets marks = map (λ k. set_of e sets k (mark_at marks k)) (range_with_len 0 (size_of e))

-- each number has a set
abbrev pub HaveSets : List Cells → List Mark → Type 0
HaveSets sets marks = (k j : ℕ) → number_of marks k ≡ Some j → j < length sets

-- the runs are the longest ones of the cells of a number whose indexes are below n
pub record HasRuns (marks : List Mark) (n j : ℕ) (runs : List Run) : Type 0 where
  pub longest : AreRunsFrom 0 n runs
  pub covered : (k : ℕ) → covers runs k ≡ (nat_lt k n && is_number (number_of marks k) j)

-- there is a list of runs for each number
pub record AreLists (marks : List Mark) (n count : ℕ) (lists : List (List Run)) : Type 0 where
  pub long : length lists ≡ count
  pub each : (j : ℕ) → j < count → HasRuns marks n j (slice_index_or lists j [])

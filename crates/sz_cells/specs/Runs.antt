-- Runs of row-major indexes: the longest runs that spell a set, and the smallest rectangle round
-- it.
use Rattle.std.specs.Prelude.{◌≡◌, ℕ, ◌+◌, ◌-◌, ◌<◌, ◌≤◌, Bool, ◌&&◌, ◌==◌, nat_le}
use Rattle.std.specs.Prelude.{min, max, if◌then◌else◌, slice_index_or, List, [], ◌∷◌, fold, Option}
use Rattle.std.specs.Prelude.{Some, None}
use Rattle.std.specs.List.{list_any, range_with_len, flat_map}
use Rattle.sz_cells.specs.declared.Bounds.{Bounds}
use Rattle.sz_cells.specs.declared.Cell.{Cell}
use Rattle.sz_cells.specs.declared.Run.{Run}
use Rattle.sz_cells.specs.Extent.{Extent, size_of, cell_of}
use Rattle.sz_cells.specs.Cells.{Cells}

-- the indexes of a run, both ends in it
abbrev pub indexes_of : Run → List ℕ
indexes_of r = range_with_len r.first (r.last - r.first + 1)

-- the index is in a run, and in one of some runs
abbrev pub is_in : Run → ℕ → Bool
is_in r k = nat_le r.first k && nat_le k r.last

abbrev pub covers : List Run → ℕ → Bool
covers runs k = list_any (λ r. is_in r k) runs

-- the first index of the run at a place
abbrev pub first_at : List Run → ℕ → ℕ
first_at runs i = (slice_index_or runs i (record { first = 0; last = 0 })).first

-- the cells of a run of a shape
abbrev pub run_cells : Extent → Run → Cells
run_cells e r = record { extent = e; indexes = indexes_of r }

-- an index before runs that all begin above it: in front of the first run where it touches it
abbrev pub before_runs : ℕ → List Run → List Run
before_runs k [] = record { first = k; last = k } ∷ []
before_runs k (r ∷ runs) = if r.first == k + 1 then record { first = k; last = r.last } ∷ runs
    else record { first = k; last = k } ∷ r ∷ runs

-- the longest runs of rising indexes
abbrev pub runs_of : List ℕ → List Run
runs_of [] = []
runs_of (k ∷ ks) = before_runs k (runs_of ks)

-- runs that rise, with a gap between any two, and end below a bound
abbrev pub AreRunsFrom : ℕ → ℕ → List Run → Type 0
AreRunsFrom least bound [] = Unit {0}
AreRunsFrom least bound (r ∷ runs) =
    (least ≤ r.first) × (r.first ≤ r.last) × (r.last < bound) × AreRunsFrom (r.last + 2) bound runs

-- the runs are the longest ones that spell the set
pub record Spells (runs : List Run) (set : Cells) : Type 0 where
  pub longest : AreRunsFrom 0 (size_of set.extent) runs
  pub spelled : flat_map indexes_of runs ≡ set.indexes

-- the rectangle of one cell, and a rectangle made so wide that it has a further cell
abbrev pub bounds_of_cell : Cell → Bounds
bounds_of_cell c = record { top = c.row; left = c.col; bottom = c.row; right = c.col }

abbrev pub bounds_with : Bounds → Cell → Bounds
bounds_with b c = record {
  top = min b.top c.row;
  left = min b.left c.col;
  bottom = max b.bottom c.row;
  right = max b.right c.col;
}

-- the smallest rectangle that has the cells of some indexes, none where there is no index
abbrev pub bounds_of_indexes : Extent → List ℕ → Option Bounds
bounds_of_indexes e [] = None
bounds_of_indexes e (k ∷ ks) = Some (fold (λ b i. bounds_with b (cell_of e i))
    (bounds_of_cell (cell_of e k)) ks)

-- the smallest rectangle that has every cell of a set, none where the set is empty
abbrev pub bounds_of : Cells → Option Bounds
bounds_of set = bounds_of_indexes set.extent set.indexes

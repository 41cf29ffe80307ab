-- The bytes of a cell set of a known shape: 4 for the number of runs, then for each of the longest
-- runs, rising, 4 for its first and 4 for its last row-major index, both in the run. Numbers are
-- big-endian. So a set has one spelling.
use Rattle.std.specs.Prelude.{◌≡◌, ℕ, List, ◌++◌, length, drop}
use Rattle.std.specs.List.{flat_map}
use Rattle.std.specs.Int.{w32, to_be_bytes}
use Rattle.sz_cells.specs.declared.Run.{Run}
use Rattle.sz_cells.specs.Extent.{Extent, size_of}
use Rattle.sz_cells.specs.Cells.{Cells}
use Rattle.sz_cells.specs.Rising.{AreRising}
use Rattle.sz_cells.specs.Runs.{runs_of}

-- a number of four bytes
abbrev pub four_bytes : ℕ → List ℕ
four_bytes n = to_be_bytes w32 n

-- a run's two ends
abbrev pub run_bytes : Run → List ℕ
run_bytes r = four_bytes r.first ++ four_bytes r.last

-- the one spelling of a set
abbrev pub set_bytes : Cells → List ℕ
set_bytes set = four_bytes (length (runs_of set.indexes)) ++ flat_map run_bytes
    (runs_of set.indexes)

-- a set of this shape: its indexes rise, each below the shape's size
pub record IsSetOf (e : Extent) (set : Cells) : Type 0 where
  pub extent : set.extent ≡ e
  pub rising : AreRising 0 (size_of e) set.indexes

-- the bytes of this set of this shape begin at a place, and end before another
pub record BeginsSet (e : Extent) (bytes : List ℕ) (at next : ℕ) (set : Cells) : Type 0 where
  pub is_set : IsSetOf e set
  pub rest : List ℕ
  pub spelled : drop at bytes ≡ set_bytes set ++ rest
  pub ends : drop next bytes ≡ rest

-- A short cell set of a known shape: a short number for how many longest runs it has, and for each
-- run, rising, a short gap and a short number of the cells behind its first. The gap of the first
-- run is its first index, and that of a later one is how far it begins behind the least index at
-- which it might, which is the last index of the run before it plus 2. So a set has one spelling.
use Rattle.std.specs.Prelude.{◌≡◌, ℕ, ◌+◌, ◌-◌, ◌<◌, ◌≤◌, List, [], ◌∷◌, ◌++◌, length, drop}
use Rattle.sz_cells.specs.declared.Run.{Run}
use Rattle.sz_cells.specs.Extent.{Extent}
use Rattle.sz_cells.specs.Cells.{Cells}
use Rattle.sz_cells.specs.Runs.{runs_of}
use Rattle.sz_cells.specs.SetBytes.{IsSetOf}
use Rattle.sz_region.specs.declared.set_bytes.Take.{Take}
use Rattle.sz_region.specs.declared.set_bytes.Take.TheVariants.{Bad, NoMemory}
use Rattle.sz_short.specs.ShortNumber.{short_number}

-- a run that begins no earlier than at an index: how far behind it, and how many cells are behind
-- the first
abbrev pub short_run : ℕ → Run → List ℕ
short_run from r = short_number (r.first - from) ++ short_number (r.last - r.first)

-- runs one after another, the first of which begins no earlier than at an index
abbrev pub short_runs : ℕ → List Run → List ℕ
short_runs from [] = []
short_runs from (r ∷ runs) = short_run from r ++ short_runs (r.last + 2) runs

-- how many runs there are, and the runs
abbrev pub short_runs_bytes : List Run → List ℕ
short_runs_bytes runs = short_number (length runs) ++ short_runs 0 runs

-- the one short spelling of a set
abbrev pub short_set_bytes : Cells → List ℕ
short_set_bytes set = short_runs_bytes (runs_of set.indexes)

-- the short bytes of this set of this shape begin at a place, and end before another
pub record BeginsShortSet (e : Extent) (bytes : List ℕ) (at next : ℕ) (set : Cells) : Type 0 where
  pub is_set : IsSetOf e set
  pub rest : List ℕ
  pub spelled : drop at bytes ≡ short_set_bytes set ++ rest
  pub ends : drop next bytes ≡ rest

-- no short set of the shape begins at the place, whichever set and wherever it ends
abbrev pub NoShortSetBegins : Extent → List ℕ → ℕ → Type 0
NoShortSetBegins e bytes at = (next : ℕ) (set : Cells) → BeginsShortSet e bytes at next set → ⊥

-- what is said where no short set is read: at which place none begins, or that there was no memory
abbrev pub SaysNoShortSet : Extent → List ℕ → ℕ → Take → Type 0
SaysNoShortSet e bytes at (Bad place) = (place ≡ at) × NoShortSetBegins e bytes at
SaysNoShortSet e bytes at NoMemory = Unit {0}

-- a run that begins no earlier than at an index and ends below a bound
pub record IsRunFrom (from bound : ℕ) (r : Run) : Type 0 where
  pub begins : from ≤ r.first
  pub order : r.first ≤ r.last
  pub ends : r.last < bound

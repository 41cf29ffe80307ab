-- The cells of each number as links: a number tells its least cell, and each cell tells the next
-- one of its number. What is told is one more than the cell, and 0 where there is none.
use Rattle.std.specs.Prelude.{◌≡◌, ℕ, zero, suc, ◌+◌, ◌-◌, ◌<◌, ◌≤◌, List, [], ◌∷◌, length, map}
use Rattle.std.specs.Prelude.{slice_index, All}
use Rattle.sz_cells.specs.declared.Run.{Run}
use Rattle.sz_cells.specs.Runs.{runs_of}

-- the least cell from a place on that has a number is told
pub record TellsNext (labels : List ℕ) (number from told : ℕ) : Type 0 where
  pub within : told ≤ length labels
  pub is : 0 < told → (from < told) × (slice_index labels (told - 1) ≡ number)
  pub least : (k : ℕ) → from ≤ k → k < length labels → slice_index labels k ≡ number
      → (0 < told) × (told ≤ k + 1)

-- of the cells from n on, the least one of each number below a count is told, and behind each of
-- them the next one of its number
pub record AreTold (labels : List ℕ) (count n : ℕ) (first next : List ℕ) : Type 0 where
  pub many : length first ≡ count
  pub long : length next ≡ length labels
  pub firsts : (number : ℕ) → number < count
      → TellsNext labels number n (slice_index first number)
  pub nexts : (k : ℕ) → n ≤ k → k < length labels
      → TellsNext labels (slice_index labels k) (k + 1) (slice_index next k)

-- each cell tells one behind it or none, and no cell is told that is not there
pub record AreLinks (first next : List ℕ) : Type 0 where
  pub firsts : All (λ told. told ≤ length next) first
  pub nexts : All (λ told. told ≤ length next) next
  pub further : (k : ℕ) → k < length next → 0 < slice_index next k → k + 1 < slice_index next k

-- the cells from a told one on, so many at most
abbrev pub cells_told : ℕ → List ℕ → ℕ → List ℕ
cells_told zero next told = []
cells_told (suc n) next zero = []
cells_told (suc n) next (suc k) = k ∷ cells_told n next (slice_index next k)

-- the longest runs of the cells of each number
abbrev pub groups_told : List ℕ → List ℕ → List (List Run)
groups_told first next = map (λ told. runs_of (cells_told (length next) next told)) first

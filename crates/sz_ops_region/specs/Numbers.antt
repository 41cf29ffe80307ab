-- Labels of the cells of an array, and numbers of its components, by which they are marked.
use Rattle.std.specs.Prelude.{◌≡◌, ℕ, ◌+◌, ◌<◌, ◌≤◌, ℤ, Bool, true, false}
use Rattle.std.specs.Prelude.{List, length, slice_index, Some}
use Rattle.sz_cells.specs.Extent.{size_of, cell_of}
use Rattle.sz_spec.specs.Values.{Grid}
use Rattle.sz_spec.specs.Operators.Regions.{is_high, are_neighbours, is_connected}
use Rattle.sz_ops_region.specs.declared.marks.Mark.{Mark}
use Rattle.sz_ops_region.specs.declared.marks.Mark.TheVariants.{Low, Alone}
use Rattle.sz_ops_region.specs.Marks.{mark_at, number_of, is_tall}

-- high cells, neighbours and connected cells, by their indexes
abbrev pub high_at : ℤ → Grid → ℕ → Bool
high_at t g k = is_high t g (cell_of g.extent k)

abbrev pub near_at : Grid → ℕ → ℕ → Bool
near_at g k l = are_neighbours g.extent (cell_of g.extent k) (cell_of g.extent l)

abbrev pub joined_at : ℤ → Grid → ℕ → ℕ → Bool
joined_at t g k l = is_connected t g (cell_of g.extent k) (cell_of g.extent l)

-- no neighbour of the cell is high
abbrev pub IsApart : ℤ → Grid → ℕ → Type 0
IsApart t g k = (l : ℕ) → l < size_of g.extent → high_at t g l ≡ true → near_at g k l ≡ false

-- each number below a bound is that of some cell
abbrev pub AreUsed : List Mark → ℕ → Type 0
AreUsed marks count = (i : ℕ) → i < count → (k : ℕ) × (number_of marks k ≡ Some i)

-- each label is 1 plus the index of a cell that is no later one and has that label too
abbrev pub AreFirsts : List ℕ → Type 0
AreFirsts labels = (k r : ℕ) → slice_index labels k ≡ 1 + r
    → (r ≤ k) × (slice_index labels r ≡ 1 + r)

-- just the high cells of an array have a label that is no 0, and two of them have one label exactly
-- where they are connected
pub record AreLabels (t : ℤ) (g : Grid) (labels : List ℕ) : Type 0 where
  pub long : length labels ≡ size_of g.extent
  pub high : (k : ℕ) → 0 < slice_index labels k → high_at t g k ≡ true
  pub all : (k : ℕ) → k < size_of g.extent → high_at t g k ≡ true → 0 < slice_index labels k
  pub firsts : AreFirsts labels
  pub one : (k l : ℕ) → 0 < slice_index labels k → slice_index labels k ≡ slice_index labels l
      → joined_at t g k l ≡ true
  pub joined : (k l : ℕ) → k < size_of g.extent → l < size_of g.extent → joined_at t g k l ≡ true
      → slice_index labels k ≡ slice_index labels l

-- Of the cells below an index each with a label is marked: as alone where no other of them has its
-- label, or by a number, which just the cells of one label have. Each number below `count` is that
-- of a cell, and no other number is. Any other cell is marked as low.
pub record AreGrouped (labels : List ℕ) (marks : List Mark) (count n : ℕ) : Type 0 where
  pub long : length marks ≡ length labels
  pub rest : (k : ℕ) → n ≤ k → mark_at marks k ≡ Low
  pub low : (k : ℕ) → slice_index labels k ≡ 0 → mark_at marks k ≡ Low
  pub tall : (k : ℕ) → k < n → 0 < slice_index labels k → is_tall (mark_at marks k) ≡ true
  pub alone : (k l : ℕ) → mark_at marks k ≡ Alone → l < n
      → slice_index labels l ≡ slice_index labels k → l ≡ k
  pub few : (k i : ℕ) → number_of marks k ≡ Some i → i < count
  pub used : AreUsed marks count
  pub one : (k l i : ℕ) → number_of marks k ≡ Some i → number_of marks l ≡ Some i
      → slice_index labels k ≡ slice_index labels l
  pub same : (k l i : ℕ) → number_of marks k ≡ Some i → l < n
      → slice_index labels l ≡ slice_index labels k → number_of marks l ≡ Some i

-- Each cell of an array is marked as low, where it is not high, as alone, where no neighbour is
-- high either, or by a number. Each number below `count` is that of a cell, and no other number is;
-- two cells have one number exactly where they are connected.
pub record AreNumbers (t : ℤ) (g : Grid) (marks : List Mark) (count : ℕ) : Type 0 where
  pub long : length marks ≡ size_of g.extent
  pub tall : (k : ℕ) → k < size_of g.extent → is_tall (mark_at marks k) ≡ high_at t g k
  pub apart : (k : ℕ) → mark_at marks k ≡ Alone → IsApart t g k
  pub high : (k i : ℕ) → number_of marks k ≡ Some i
      → (k < size_of g.extent) × (high_at t g k ≡ true) × (i < count)
  pub used : AreUsed marks count
  pub one : (k l i : ℕ) → number_of marks k ≡ Some i → number_of marks l ≡ Some i
      → joined_at t g k l ≡ true
  pub joined : (k l i : ℕ) → number_of marks k ≡ Some i → l < size_of g.extent
      → joined_at t g k l ≡ true → number_of marks l ≡ Some i

-- Stretches of cells with one mark.
use Rattle.std.specs.Prelude.{◌≡◌, ℕ, ◌+◌, ◌<◌, ◌≤◌, List, length, slice_index}
use Rattle.sz_ops_region.specs.declared.marks.Mark.{Mark}
use Rattle.sz_ops_region.specs.Marks.{mark_at}

-- from an index to before another all words are one
abbrev pub AreOne : List ℕ → ℕ → ℕ → Type 0
AreOne words from end = (k : ℕ) → from ≤ k → k < end → slice_index words k ≡ slice_index words from

-- so many indexes rise from 0 and are below n, from each to before the next all words are one, and
-- from the last to before n too
pub record AreStarts (words : List ℕ) (count n : ℕ) (starts : List ℕ) : Type 0 where
  pub some : 0 < count
  pub from : slice_index starts 0 ≡ 0
  pub rising : (m : ℕ) → m + 1 < count → slice_index starts m < slice_index starts (m + 1)
  pub same : (m : ℕ) → m + 1 < count
      → AreOne words (slice_index starts m) (slice_index starts (m + 1))
  pub low : (m : ℕ) → m < count → slice_index starts m < n
  pub last : (m : ℕ) → m + 1 ≡ count → AreOne words (slice_index starts m) n

-- the indexes rise from 0 to the number of cells, and from each to before the next all cells have
-- one mark
pub record AreStretches (marks : List Mark) (starts : List ℕ) : Type 0 where
  pub some : 1 < length starts
  pub few : length starts ≤ length marks + 1
  pub from : slice_index starts 0 ≡ 0
  pub upto : (m : ℕ) → m + 1 ≡ length starts → slice_index starts m ≡ length marks
  pub rising : (m : ℕ) → m + 1 < length starts → slice_index starts m < slice_index starts (m + 1)
  pub within : (m : ℕ) → m < length starts → slice_index starts m ≤ length marks
  pub same : (m k : ℕ) → m + 1 < length starts → slice_index starts m ≤ k
      → k < slice_index starts (m + 1) → mark_at marks k ≡ mark_at marks (slice_index starts m)

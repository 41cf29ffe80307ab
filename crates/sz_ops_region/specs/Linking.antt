-- Links between the high cells of an array, while they are made cell by cell.
use Rattle.std.specs.Prelude.{◌≡◌, ℕ, ◌<◌, ◌≤◌, ℤ, true, List, length, slice_index}
use Rattle.sz_cells.specs.declared.Cell.{Cell}
use Rattle.sz_cells.specs.Extent.{Extent, holds, index_of, size_of}
use Rattle.sz_spec.specs.Values.{Grid}
use Rattle.sz_spec.specs.Operators.Regions.{are_neighbours}
use Rattle.sz_ops_region.specs.declared.sides.Side.{Side}
use Rattle.sz_ops_region.specs.Sides.{is_on}
use Rattle.sz_ops_region.specs.Numbers.{high_at, near_at, joined_at}
use Rattle.sz_ops_region.specs.Links.{HasLink, AreLinks, AreRoots}

-- Of the cells below an index the high ones have a link, and no other cell has one. Each is
-- connected to its root, neighbours have one root, and each cell from the index on is its own.
pub record Linking (t : ℤ) (g : Grid) (words : List ℕ) (n : ℕ) (root : ℕ → ℕ) : Type 0 where
  pub long : length words ≡ size_of g.extent
  pub links : AreLinks words
  pub roots : AreRoots words root
  pub tall : (k : ℕ) → HasLink words k → (k < n) × (high_at t g k ≡ true)
  pub all : (k : ℕ) → k < n → high_at t g k ≡ true → HasLink words k
  pub reach : (k : ℕ) → HasLink words k → joined_at t g k (root k) ≡ true
  pub fresh : (k : ℕ) → n ≤ k → root k ≡ k
  pub united : (k l : ℕ) → k < n → l < n → high_at t g k ≡ true → high_at t g l ≡ true
      → near_at g k l ≡ true → root k ≡ root l

-- the cells below an index are linked
pub record AreLinked (t : ℤ) (g : Grid) (words : List ℕ) (n : ℕ) : Type 0 where
  pub root : ℕ → ℕ
  pub linking : Linking t g words n root

-- the word is that of the neighbour of a cell on a side, 0 where there is no such neighbour
abbrev pub IsWordOn : List ℕ → Extent → Cell → Side → ℕ → Type 0
IsWordOn words e cell side word =
    (0 < word → (c : Cell) × (holds e c ≡ true) × (are_neighbours e cell c ≡ true)
    × (word ≡ slice_index words (index_of e c)))
    × ((c : Cell) → holds e c ≡ true → are_neighbours e cell c ≡ true → is_on side cell c ≡ true
    → word ≡ slice_index words (index_of e c))

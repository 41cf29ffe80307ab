-- Rectangles by their numbers, and the next one that a rectangle meets.
use Rattle.std.specs.Prelude.{ℕ, ◌≤◌, ◌<◌, List, length, Option, MatchOption}
use Rattle.std.specs.List.{AllWithin, HoldsAt}
use Rattle.sz_cells.specs.declared.Bounds.{Bounds}

-- what is seen of a tree: its rectangles in the order of their numbers, how many more it has room
-- for, and the capacities of the lists that it keeps, which say how much memory it holds
pub record Rectangles : Type 0 where
  pub rectangles : List Bounds
  pub spare : ℕ
  pub capacities : List ℕ

-- the two have a row and a column in common
abbrev pub Overlaps : Bounds → Bounds → Type 0
Overlaps a b =
    (a.top ≤ b.bottom) × (b.top ≤ a.bottom) × (a.left ≤ b.right) × (b.left ≤ a.right)

-- the least number at or above `from` whose rectangle overlaps `bounds`, and none where no such
-- rectangle does
abbrev pub IsNextHit : List Bounds → Bounds → ℕ → Option ℕ → Type 0
IsNextHit rectangles bounds from hit =
    MatchOption hit
    (AllWithin (λ r. ¬ (Overlaps r bounds)) rectangles from (length rectangles))
    (λ n.
    (from ≤ n) × (n < length rectangles)
    × HoldsAt (λ r. Overlaps r bounds) rectangles n
    × AllWithin (λ r. ¬ (Overlaps r bounds)) rectangles from n)

-- What a reader may take for granted of rectangles. Each law is proved of the definitions.
use Rattle.std.specs.Prelude.{◌≡◌, ◌≤◌, ◌↔◌, ℕ, List, Option}
use Rattle.sz_cells.specs.declared.Bounds.{Bounds}
use Rattle.sz_cells.specs.declared.Cell.{Cell}
use Rattle.sz_rtree.specs.Rectangles.{Overlaps, IsNextHit}

-- the cell lies in the rectangle, both corners in it
abbrev pub HasCell : Bounds → Cell → Type 0
HasCell b c = (b.top ≤ c.row) × (c.row ≤ b.bottom) × (b.left ≤ c.col) × (c.col ≤ b.right)

-- the rectangle has a cell: its top is not below its bottom, nor its left right of its right
abbrev pub IsUpright : Bounds → Type 0
IsUpright b = (b.top ≤ b.bottom) × (b.left ≤ b.right)

-- two such rectangles overlap exactly where a cell lies in both
abbrev pub OverlapsShareACell : Type 0
OverlapsShareACell = (a b : Bounds) → IsUpright a → IsUpright b
    → Overlaps a b ↔ ((c : Cell) × HasCell a c × HasCell b c)

-- a question has one answer: at most one number is the least one, and none is where there is one
abbrev pub NextHitsAreOne : Type 0
NextHitsAreOne = (rectangles : List Bounds) (bounds : Bounds) (from : ℕ) (one other : Option ℕ)
    → IsNextHit rectangles bounds from one → IsNextHit rectangles bounds from other → one ≡ other

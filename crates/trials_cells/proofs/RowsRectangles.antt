-- Worked rows of the definitions: which rectangles have a cell, and which share one.
--
-- The key idea: on written-out rectangles each side is a comparison of two numbers.
use Rattle.std.proofs.Common.{ℕ, arith}
use Rattle.sz_cells.specs.declared.Bounds.{Bounds}
use Rattle.sz_cells.specs.declared.Cell.{Cell}
use Rattle.sz_rtree.specs.Laws.{HasCell, IsUpright}
use Rattle.sz_rtree.specs.Rectangles.{Overlaps}

-- a rectangle from its first corner to its last
abbrev box : ℕ → ℕ → ℕ → ℕ → Bounds
box top left bottom right = record { top = top; left = left; bottom = bottom; right = right }

-- a single cell is a rectangle that has a cell, and so are one of one row and one of one column
is_upright-cell : IsUpright (box 3 5 3 5)
is_upright-cell = (omega arith, omega arith)

is_upright-row : IsUpright (box 3 5 3 9)
is_upright-row = (omega arith, omega arith)

is_upright-column : IsUpright (box 3 5 9 5)
is_upright-column = (omega arith, omega arith)

-- none where the top is below the bottom, or the left right of the right
is_upright-top_below : IsUpright (box 4 5 3 5) → ⊥
is_upright-top_below h = omega (arith, h.0)

is_upright-left_behind : IsUpright (box 3 6 3 5) → ⊥
is_upright-left_behind h = omega (arith, h.1)

-- both corners lie in a rectangle, and what is beside it on each side does not
abbrev cell : ℕ → ℕ → Cell
cell row col = record { row = row; col = col }

has_cell-first : HasCell (box 3 5 4 7) (cell 3 5)
has_cell-first = (omega arith, omega arith, omega arith, omega arith)

has_cell-last : HasCell (box 3 5 4 7) (cell 4 7)
has_cell-last = (omega arith, omega arith, omega arith, omega arith)

has_cell-above : HasCell (box 3 5 4 7) (cell 2 5) → ⊥
has_cell-above h = omega (arith, h.0)

has_cell-below : HasCell (box 3 5 4 7) (cell 5 5) → ⊥
has_cell-below h = omega (arith, h.1)

has_cell-left : HasCell (box 3 5 4 7) (cell 3 4) → ⊥
has_cell-left h = omega (arith, h.2)

has_cell-right : HasCell (box 3 5 4 7) (cell 3 8) → ⊥
has_cell-right h = omega (arith, h.3)

-- a single cell overlaps itself, and two rectangles that share a corner overlap
overlaps-cell : Overlaps (box 3 5 3 5) (box 3 5 3 5)
overlaps-cell = (omega arith, omega arith, omega arith, omega arith)

overlaps-corner : Overlaps (box 3 5 4 7) (box 4 7 8 9)
overlaps-corner = (omega arith, omega arith, omega arith, omega arith)

-- those that lie beside, or below one another, do not, from either side
overlaps-beside : Overlaps (box 3 5 4 7) (box 3 8 4 9) → ⊥
overlaps-beside h = omega (arith, h.3)

overlaps-left : Overlaps (box 3 8 4 9) (box 3 5 4 7) → ⊥
overlaps-left h = omega (arith, h.2)

overlaps-below : Overlaps (box 3 5 4 7) (box 5 5 6 7) → ⊥
overlaps-below h = omega (arith, h.1)

overlaps-above : Overlaps (box 5 5 6 7) (box 3 5 4 7) → ⊥
overlaps-above h = omega (arith, h.0)

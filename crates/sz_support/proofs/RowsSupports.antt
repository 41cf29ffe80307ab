-- Rows of what fixes a value of regions: a pixel that supports a cell, and by which the cell's value differs, and one
-- that does not, and by which it stays.
--
-- The key idea: on written-out arrays every definition is a computation. Expected values by hand. Sets are given by
-- the row-major indexes of their cells.
use Rattle.std.proofs.Common.{◌≡◌, ℕ, pos, List, [], ◌∷◌, map, refl}
use Rattle.sz_cells.specs.Cells.{cells_where}
use Rattle.sz_cells.specs.Extent.{cell_of}
use Rattle.sz_spec.specs.declared.op.Op.TheVariants as op
use Rattle.sz_spec.specs.Values.{Grid}
use Rattle.sz_spec.specs.Evaluation.{output_of}
use Rattle.sz_spec.specs.Supports.{supports}
use Rattle.sz_spec.proofs.RowsArrays.{grid, stack, n, none}

-- the cells that support the cell of an index, and the labels
abbrev behind : Grid → ℕ → List ℕ
behind g k = (cells_where g.extent (supports (op.Regions (pos 5)) (g ∷ []) 0 (cell_of g.extent k))).indexes

abbrev labels : Grid → Grid
labels g = output_of (op.Regions (pos 5)) (g ∷ [])

-- ---- the pixel between two regions

abbrev parted : Grid
parted = grid 1 5 (map n (9 ∷ 9 ∷ 0 ∷ 9 ∷ 9 ∷ []))

-- it supports the cells of both, and neither region supports the other's cells
pub between-first : behind parted 0 ≡ 0 ∷ 1 ∷ 2 ∷ []
between-first = refl

pub between-second : behind parted 4 ≡ 2 ∷ 3 ∷ 4 ∷ []
between-second = refl

pub between-itself : behind parted 2 ≡ 2 ∷ []
between-itself = refl

-- where it is high, the label of the second differs
pub between-before : labels parted ≡ grid 1 5 (map n (1 ∷ 1 ∷ 0 ∷ 4 ∷ 4 ∷ []))
between-before = refl

pub between-after : labels (grid 1 5 (map n (9 ∷ 9 ∷ 9 ∷ 9 ∷ 9 ∷ [])))
    ≡ grid 1 5 (map n (1 ∷ 1 ∷ 1 ∷ 1 ∷ 1 ∷ []))
between-after = refl

-- ---- a dead pixel at a region's rim

abbrev dead : Grid
dead = grid 2 3 (n 0 ∷ none ∷ n 0 ∷ n 0 ∷ n 9 ∷ n 9 ∷ [])

-- it supports the region's cells, and not the one beside it that is low
pub rim : behind dead 5 ≡ 1 ∷ 2 ∷ 3 ∷ 4 ∷ 5 ∷ []
rim = refl

pub rim-low : behind dead 0 ≡ 0 ∷ []
rim-low = refl

-- the region's label differs, were it high
pub rim-before : labels dead ≡ grid 2 3 (map n (0 ∷ 0 ∷ 0 ∷ 0 ∷ 5 ∷ 5 ∷ []))
rim-before = refl

pub rim-after : labels (grid 2 3 (map n (0 ∷ 9 ∷ 0 ∷ 0 ∷ 9 ∷ 9 ∷ [])))
    ≡ grid 2 3 (map n (0 ∷ 2 ∷ 0 ∷ 0 ∷ 2 ∷ 2 ∷ []))
rim-after = refl

-- ---- a low pixel two cells off

-- it does not support the cell, and were it high, the cell's label would be the same
pub off : behind (grid 1 3 (map n (0 ∷ 0 ∷ 9 ∷ []))) 2 ≡ 1 ∷ 2 ∷ []
off = refl

pub off-before : labels (grid 1 3 (map n (0 ∷ 0 ∷ 9 ∷ []))) ≡ grid 1 3 (map n (0 ∷ 0 ∷ 3 ∷ []))
off-before = refl

pub off-after : labels (grid 1 3 (map n (9 ∷ 0 ∷ 9 ∷ []))) ≡ grid 1 3 (map n (1 ∷ 0 ∷ 3 ∷ []))
off-after = refl

-- nor does one that touches it at a corner
pub corner : behind (grid 2 2 (map n (9 ∷ 0 ∷ 0 ∷ 0 ∷ []))) 0 ≡ 0 ∷ 1 ∷ 2 ∷ []
corner = refl

-- ---- layers

abbrev stacked : Grid
stacked = stack 2 2 1 (map n (0 ∷ 9 ∷ 0 ∷ 0 ∷ []))

-- the first row of the next layer lies below the last row of this one, and does not support it
pub layer-end : behind stacked 1 ≡ 0 ∷ 1 ∷ []
layer-end = refl

pub layer-start : behind (stack 2 2 1 (map n (0 ∷ 0 ∷ 9 ∷ 0 ∷ []))) 2 ≡ 2 ∷ 3 ∷ []
layer-start = refl

pub layer-before : labels stacked ≡ stack 2 2 1 (map n (0 ∷ 2 ∷ 0 ∷ 0 ∷ []))
layer-before = refl

pub layer-after : labels (stack 2 2 1 (map n (0 ∷ 9 ∷ 9 ∷ 0 ∷ []))) ≡ stack 2 2 1 (map n (0 ∷ 2 ∷ 3 ∷ 0 ∷ []))
layer-after = refl

-- in one layer it does
pub layer-one : behind (grid 4 1 (map n (0 ∷ 9 ∷ 0 ∷ 0 ∷ []))) 1 ≡ 0 ∷ 1 ∷ 2 ∷ []
layer-one = refl

-- ---- a region at an array's edge

-- its neighbours are of the array alone, and the first cell of the next row is none
pub edge : behind (grid 2 3 (map n (0 ∷ 9 ∷ 9 ∷ 0 ∷ 0 ∷ 0 ∷ []))) 2 ≡ 0 ∷ 1 ∷ 2 ∷ 4 ∷ 5 ∷ []
edge = refl

pub edge-whole : behind (grid 1 2 (map n (9 ∷ 9 ∷ []))) 0 ≡ 0 ∷ 1 ∷ []
edge-whole = refl

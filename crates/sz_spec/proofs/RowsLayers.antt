-- Rows on arrays of two layers: each operator but the fold of layers reads within a layer.
--
-- The key idea: on written-out arrays every definition is a computation, so each row is its own proof. Expected
-- values by hand. Sets are given by the row-major indexes of their cells, counted through the layers.
use Rattle.std.proofs.Common.{◌≡◌, pos, [], ◌∷◌, Err, refl}
use Rattle.sz_cells.specs.Extent.{flat, layered}
use Rattle.sz_spec.specs.declared.op.Op.TheVariants as op
use Rattle.sz_spec.specs.declared.op.Fold.TheVariants as fold
use Rattle.sz_spec.specs.declared.shapes.ShapeFault.TheVariants as fault
use Rattle.sz_spec.specs.Values.{Grid}
use Rattle.sz_spec.specs.Shapes.{shape_of}
use Rattle.sz_spec.specs.Evaluation.{output_of}
use Rattle.sz_spec.proofs.RowsArrays.{n, minus, none, grid, stack, at, back_of, forward_of, two}
use Rattle.sz_spec.proofs.RowsArrays.{plus}

-- ---- elementwise

pub negated : output_of op.Neg (two ∷ []) ≡ stack 2 1 2 (minus 1 ∷ minus 2 ∷ minus 3 ∷ none ∷ [])
negated = refl

pub negated-back : back_of op.Neg (two ∷ []) 0 (2 ∷ []) ≡ at (layered 2 1 2) (2 ∷ [])
negated-back = refl

pub added : output_of op.Add (two ∷ two ∷ []) ≡ stack 2 1 2 (n 2 ∷ n 4 ∷ n 6 ∷ none ∷ [])
added = refl

-- equal shapes have equal layers
pub unequal : shape_of op.Add (layered 2 1 2 ∷ flat 2 2 ∷ []) ≡ Err fault.Unequal
unequal = refl

-- ---- transpose

pub turned : output_of op.Transpose (two ∷ []) ≡ stack 2 2 1 (n 1 ∷ n 2 ∷ n 3 ∷ none ∷ [])
turned = refl

pub turned-back : back_of op.Transpose (two ∷ []) 0 (3 ∷ []) ≡ at (layered 2 1 2) (3 ∷ [])
turned-back = refl

-- two layers of two rows and three columns
abbrev twelve : Grid
twelve = stack 2 2 3
    (n 1 ∷ n 2 ∷ n 3 ∷ n 4 ∷ n 5 ∷ n 6 ∷ n 11 ∷ n 12 ∷ n 13 ∷ n 14 ∷ n 15 ∷ n 16 ∷ [])

pub turned-twelve : output_of op.Transpose (twelve ∷ [])
    ≡ stack 2 3 2
    (n 1 ∷ n 4 ∷ n 2 ∷ n 5 ∷ n 3 ∷ n 6 ∷ n 11 ∷ n 14 ∷ n 12 ∷ n 15 ∷ n 13 ∷ n 16 ∷ [])
turned-twelve = refl

pub turned-twelve_back : back_of op.Transpose (twelve ∷ []) 0 (4 ∷ 10 ∷ [])
    ≡ at (layered 2 2 3) (2 ∷ 8 ∷ [])
turned-twelve_back = refl

pub turned-twelve_forward : forward_of op.Transpose (twelve ∷ []) 0 (9 ∷ []) ≡ at (layered 2 3 2) (7 ∷ [])
turned-twelve_forward = refl

-- ---- slice: the second row of each layer, without its first column

pub sliced : output_of (op.Slice 1 1 1 2) (twelve ∷ []) ≡ stack 2 1 2 (n 5 ∷ n 6 ∷ n 15 ∷ n 16 ∷ [])
sliced = refl

pub sliced-back : back_of (op.Slice 1 1 1 2) (twelve ∷ []) 0 (3 ∷ []) ≡ at (layered 2 2 3) (11 ∷ [])
sliced-back = refl

pub sliced-forward : forward_of (op.Slice 1 1 1 2) (twelve ∷ []) 0 (6 ∷ 10 ∷ [])
    ≡ at (layered 2 1 2) (2 ∷ [])
sliced-forward = refl

-- it may not reach into the next layer
pub sliced-out : shape_of (op.Slice 1 0 2 1) (layered 2 2 3 ∷ []) ≡ Err fault.OutOfRange
sliced-out = refl

-- ---- convolve

abbrev column : Grid
column = stack 2 2 1 (n 1 ∷ n 2 ∷ n 3 ∷ n 4 ∷ [])

pub crossed : output_of (op.Convolve plus) (column ∷ []) ≡ stack 2 2 1 (n 3 ∷ n 3 ∷ n 7 ∷ n 7 ∷ [])
crossed = refl

pub crossed-back : back_of (op.Convolve plus) (column ∷ []) 0 (1 ∷ []) ≡ at (layered 2 2 1) (0 ∷ 1 ∷ [])
crossed-back = refl

pub crossed-forward : forward_of (op.Convolve plus) (column ∷ []) 0 (2 ∷ [])
    ≡ at (layered 2 2 1) (2 ∷ 3 ∷ [])
crossed-forward = refl

-- ---- block

pub sums : output_of (op.Block fold.Sum 1 2) (two ∷ []) ≡ stack 2 1 1 (n 3 ∷ n 3 ∷ [])
sums = refl

pub sums-back : back_of (op.Block fold.Sum 1 2) (two ∷ []) 0 (1 ∷ []) ≡ at (layered 2 1 2) (2 ∷ 3 ∷ [])
sums-back = refl

-- blocks of two rows over layers of three: the last block of a layer is smaller
abbrev three : Grid
three = stack 2 3 1 (n 1 ∷ n 2 ∷ n 3 ∷ n 4 ∷ n 5 ∷ n 6 ∷ [])

pub sums-three : output_of (op.Block fold.Sum 2 1) (three ∷ [])
    ≡ stack 2 2 1 (n 3 ∷ n 3 ∷ n 9 ∷ n 6 ∷ [])
sums-three = refl

pub sums-three_back : back_of (op.Block fold.Sum 2 1) (three ∷ []) 0 (1 ∷ 2 ∷ [])
    ≡ at (layered 2 3 1) (2 ∷ 3 ∷ 4 ∷ [])
sums-three_back = refl

pub sums-three_forward : forward_of (op.Block fold.Sum 2 1) (three ∷ []) 0 (5 ∷ [])
    ≡ at (layered 2 2 1) (3 ∷ [])
sums-three_forward = refl

-- ---- lookup: the table has one layer, and all its cells are in range of each cell

pub found : output_of op.Lookup (two ∷ grid 1 3 (n 5 ∷ n 6 ∷ n 7 ∷ []) ∷ [])
    ≡ stack 2 1 2 (n 6 ∷ n 7 ∷ none ∷ none ∷ [])
found = refl

pub found-back : back_of op.Lookup (two ∷ grid 1 3 (n 5 ∷ n 6 ∷ n 7 ∷ []) ∷ []) 1 (0 ∷ 1 ∷ 2 ∷ [])
    ≡ at (flat 1 3) (1 ∷ 2 ∷ [])
found-back = refl

-- a table of two layers of one row has two rows
pub found-layers : shape_of op.Lookup (flat 1 1 ∷ layered 2 1 3 ∷ []) ≡ Err fault.NotOneRow
found-layers = refl

-- ---- regions: cells one above another in two layers are no neighbours

pub labelled : output_of (op.Regions (pos 5)) (stack 2 1 1 (n 9 ∷ n 9 ∷ []) ∷ [])
    ≡ stack 2 1 1 (n 1 ∷ n 2 ∷ [])
labelled = refl

pub labelled-back : back_of (op.Regions (pos 5)) (stack 2 1 1 (n 9 ∷ n 9 ∷ []) ∷ []) 0 (1 ∷ [])
    ≡ at (layered 2 1 1) (1 ∷ [])
labelled-back = refl

-- ---- clean: the cells of another layer do not count

pub cleaned : output_of (op.Clean (pos 5)) (stack 2 2 1 (n 1 ∷ n 9 ∷ n 0 ∷ n 9 ∷ []) ∷ [])
    ≡ stack 2 2 1 (n 1 ∷ n 1 ∷ n 0 ∷ n 0 ∷ [])
cleaned = refl

pub cleaned-back : back_of (op.Clean (pos 5)) (stack 2 2 1 (n 1 ∷ n 9 ∷ n 0 ∷ n 9 ∷ []) ∷ []) 0 (1 ∷ [])
    ≡ at (layered 2 2 1) (0 ∷ 1 ∷ [])
cleaned-back = refl

-- ---- fold of layers

pub folded-sum : output_of (op.FoldLayers fold.Sum) (two ∷ []) ≡ grid 1 2 (n 4 ∷ n 2 ∷ [])
folded-sum = refl

pub folded-min : output_of (op.FoldLayers fold.Min) (two ∷ []) ≡ grid 1 2 (n 1 ∷ n 2 ∷ [])
folded-min = refl

pub folded-max : output_of (op.FoldLayers fold.Max) (two ∷ []) ≡ grid 1 2 (n 3 ∷ n 2 ∷ [])
folded-max = refl

pub folded-count : output_of (op.FoldLayers fold.Count) (two ∷ []) ≡ grid 1 2 (n 2 ∷ n 1 ∷ [])
folded-count = refl

pub folded-back : back_of (op.FoldLayers fold.Sum) (two ∷ []) 0 (1 ∷ []) ≡ at (layered 2 1 2) (1 ∷ 3 ∷ [])
folded-back = refl

pub folded-forward : forward_of (op.FoldLayers fold.Sum) (two ∷ []) 0 (2 ∷ []) ≡ at (flat 1 2) (0 ∷ [])
folded-forward = refl

pub folded-twelve : output_of (op.FoldLayers fold.Max) (twelve ∷ [])
    ≡ grid 2 3 (n 11 ∷ n 12 ∷ n 13 ∷ n 14 ∷ n 15 ∷ n 16 ∷ [])
folded-twelve = refl

pub folded-twelve_back : back_of (op.FoldLayers fold.Max) (twelve ∷ []) 0 (5 ∷ [])
    ≡ at (layered 2 2 3) (5 ∷ 11 ∷ [])
folded-twelve_back = refl

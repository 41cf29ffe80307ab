-- Rows of the operators that move cells or read several, on arrays of one layer: values, and images back and
-- forward.
--
-- The key idea: on written-out arrays every definition is a computation, so each row is its own proof. Expected
-- values by hand. Sets are given by the row-major indexes of their cells.
use Rattle.std.proofs.Common.{◌≡◌, ◌-◌, ◌^◌, pos, negsuc, [], ◌∷◌, Ok, Err, refl}
use Rattle.std.specs.Prelude.{map, ◌==◌, if◌then◌else◌}
use Rattle.std.specs.List.{range_with_len}
use Rattle.sz_cells.specs.Extent.{flat}
use Rattle.sz_spec.specs.declared.op.Op.TheVariants as op
use Rattle.sz_spec.specs.declared.op.Fold.TheVariants as fold
use Rattle.sz_spec.specs.declared.shapes.ShapeFault.TheVariants as fault
use Rattle.sz_spec.specs.Values.{Grid}
use Rattle.sz_spec.specs.Weights.{Weights}
use Rattle.sz_spec.specs.Shapes.{shape_of}
use Rattle.sz_spec.specs.Evaluation.{output_of}
use Rattle.sz_spec.proofs.RowsArrays.{n, minus, none, grid, kernel, at, back_of, forward_of, nine}
use Rattle.sz_spec.proofs.RowsArrays.{six, hills, plus}

-- ---- transpose: two rows of three become three rows of two

pub turned : output_of op.Transpose (six ∷ []) ≡ grid 3 2 (n 1 ∷ n 4 ∷ n 2 ∷ n 5 ∷ n 3 ∷ n 6 ∷ [])
turned = refl

-- the cell (2,0) is that of (0,2)
pub turned-back : back_of op.Transpose (six ∷ []) 0 (4 ∷ []) ≡ at (flat 2 3) (2 ∷ [])
turned-back = refl

pub turned-forward : forward_of op.Transpose (six ∷ []) 0 (2 ∷ 3 ∷ []) ≡ at (flat 3 2) (1 ∷ 4 ∷ [])
turned-forward = refl

-- ---- slice

pub sliced : output_of (op.Slice 1 1 2 2) (nine ∷ []) ≡ grid 2 2 (n 5 ∷ n 6 ∷ n 8 ∷ n 9 ∷ [])
sliced = refl

pub sliced-row : output_of (op.Slice 2 0 1 3) (nine ∷ []) ≡ grid 1 3 (n 7 ∷ n 8 ∷ n 9 ∷ [])
sliced-row = refl

pub sliced-back : back_of (op.Slice 1 1 2 2) (nine ∷ []) 0 (1 ∷ []) ≡ at (flat 3 3) (5 ∷ [])
sliced-back = refl

pub sliced-forward : forward_of (op.Slice 1 1 2 2) (nine ∷ []) 0 (0 ∷ 7 ∷ []) ≡ at (flat 2 2) (2 ∷ [])
sliced-forward = refl

pub sliced-forward_outside : forward_of (op.Slice 1 1 2 2) (nine ∷ []) 0 (0 ∷ []) ≡ at (flat 2 2) []
sliced-forward_outside = refl

-- it may reach to the last row and column, and no further
pub sliced-whole : shape_of (op.Slice 0 0 2 3) (flat 2 3 ∷ []) ≡ Ok (flat 2 3)
sliced-whole = refl

pub sliced-rows_out : shape_of (op.Slice 1 0 2 3) (flat 2 3 ∷ []) ≡ Err fault.OutOfRange
sliced-rows_out = refl

pub sliced-cols_out : shape_of (op.Slice 0 1 2 3) (flat 2 3 ∷ []) ≡ Err fault.OutOfRange
sliced-cols_out = refl

-- ---- two inputs of unequal shapes, and a table of two rows

pub unequal : shape_of op.Add (flat 2 3 ∷ flat 3 2 ∷ []) ≡ Err fault.Unequal
unequal = refl

pub unequal-cols : shape_of op.Min (flat 2 3 ∷ flat 2 2 ∷ []) ≡ Err fault.Unequal
unequal-cols = refl

pub two-rows : shape_of op.Lookup (flat 2 3 ∷ flat 2 3 ∷ []) ≡ Err fault.NotOneRow
two-rows = refl

-- ---- convolve: a cross over 1 to 9

pub crossed : output_of (op.Convolve plus) (nine ∷ [])
    ≡ grid 3 3 (n 7 ∷ n 11 ∷ n 11 ∷ n 17 ∷ n 25 ∷ n 23 ∷ n 19 ∷ n 29 ∷ n 23 ∷ [])
crossed = refl

pub crossed-back : back_of (op.Convolve plus) (nine ∷ []) 0 (0 ∷ []) ≡ at (flat 3 3) (0 ∷ 1 ∷ 3 ∷ [])
crossed-back = refl

pub crossed-forward : forward_of (op.Convolve plus) (nine ∷ []) 0 (4 ∷ [])
    ≡ at (flat 3 3) (1 ∷ 3 ∷ 4 ∷ 5 ∷ 7 ∷ [])
crossed-forward = refl

-- a kernel with one weight, left of its middle: each cell takes its left neighbour's number twice, and the first 0
abbrev left : Weights
left = kernel 1 3 (pos 2 ∷ pos 0 ∷ pos 0 ∷ [])

pub moved : (output_of (op.Convolve left) (six ∷ []) ≡ grid 2 3 (n 0 ∷ n 2 ∷ n 4 ∷ n 0 ∷ n 8 ∷ n 10 ∷ []))
    × (back_of (op.Convolve left) (six ∷ []) 0 (0 ∷ 4 ∷ []) ≡ at (flat 2 3) (3 ∷ []))
    × (forward_of (op.Convolve left) (six ∷ []) 0 (0 ∷ 5 ∷ []) ≡ at (flat 2 3) (1 ∷ []))
moved = (refl, refl, refl)

-- the same upward: each cell takes the number below it, the last row 0
abbrev under : Weights
under = kernel 3 1 (pos 0 ∷ pos 0 ∷ pos 1 ∷ [])

pub raised : (output_of (op.Convolve under) (six ∷ []) ≡ grid 2 3 (n 4 ∷ n 5 ∷ n 6 ∷ n 0 ∷ n 0 ∷ n 0 ∷ []))
    × (back_of (op.Convolve under) (six ∷ []) 0 (1 ∷ 4 ∷ []) ≡ at (flat 2 3) (4 ∷ []))
raised = (refl, refl)

-- a kernel of three rows that is symmetric in no way is laid on as it is: its first row meets the row above
abbrev rising : Weights
rising = kernel 3 3 (pos 1 ∷ pos 2 ∷ pos 3 ∷ pos 4 ∷ pos 5 ∷ pos 6 ∷ pos 7 ∷ pos 8 ∷ pos 9 ∷ [])

pub risen : output_of (op.Convolve rising) (nine ∷ [])
    ≡ grid 3 3 (n 94 ∷ n 154 ∷ n 106 ∷ n 186 ∷ n 285 ∷ n 186 ∷ n 106 ∷ n 154 ∷ n 94 ∷ [])
risen = refl

-- and its weights that are not 0 tell the cells: above, on the right, and below on the left
abbrev scattered : Weights
scattered = kernel 3 3 (pos 0 ∷ pos 2 ∷ pos 0 ∷ pos 0 ∷ pos 0 ∷ pos 6 ∷ pos 7 ∷ pos 0 ∷ pos 0 ∷ [])

pub scattered-values : output_of (op.Convolve scattered) (nine ∷ [])
    ≡ grid 3 3 (n 12 ∷ n 46 ∷ n 35 ∷ n 32 ∷ n 89 ∷ n 62 ∷ n 56 ∷ n 64 ∷ n 12 ∷ [])
scattered-values = refl

pub scattered-back : (back_of (op.Convolve scattered) (nine ∷ []) 0 (4 ∷ []) ≡ at (flat 3 3) (1 ∷ 5 ∷ 6 ∷ []))
    × (back_of (op.Convolve scattered) (nine ∷ []) 0 (1 ∷ []) ≡ at (flat 3 3) (2 ∷ 3 ∷ []))
    × (back_of (op.Convolve scattered) (nine ∷ []) 0 (8 ∷ []) ≡ at (flat 3 3) (5 ∷ []))
scattered-back = (refl, refl, refl)

pub scattered-forward : (forward_of (op.Convolve scattered) (nine ∷ []) 0 (4 ∷ [])
    ≡ at (flat 3 3) (2 ∷ 3 ∷ 7 ∷ []))
    × (forward_of (op.Convolve scattered) (nine ∷ []) 0 (0 ∷ []) ≡ at (flat 3 3) (3 ∷ []))
scattered-forward = (refl, refl)

-- an empty cell empties those with a weight over it, and no others
pub emptied : output_of (op.Convolve left) (grid 1 3 (none ∷ n 4 ∷ n 5 ∷ []) ∷ [])
    ≡ grid 1 3 (n 0 ∷ none ∷ n 8 ∷ [])
emptied = refl

-- the sum is fitted once, and not on the way
pub fitted-once : output_of (op.Convolve (kernel 1 3 (pos 1 ∷ pos 1 ∷ pos 1 ∷ [])))
    (grid 1 3 (n (2 ^ 63 - 1) ∷ n 1 ∷ minus 1 ∷ []) ∷ [])
    ≡ grid 1 3 (none ∷ n (2 ^ 63 - 1) ∷ n 0 ∷ [])
fitted-once = refl

-- of no weight other than 0 the sum is 0, also over empty cells, and no cell is related
pub nothing : output_of (op.Convolve (kernel 1 1 (pos 0 ∷ []))) (grid 1 2 (n 3 ∷ none ∷ []) ∷ [])
    ≡ grid 1 2 (n 0 ∷ n 0 ∷ [])
nothing = refl

pub nothing-back : back_of (op.Convolve (kernel 1 1 (pos 0 ∷ []))) (grid 1 2 (n 3 ∷ none ∷ []) ∷ []) 0
    (0 ∷ 1 ∷ []) ≡ at (flat 1 2) []
nothing-back = refl

-- a weight below 0
pub negative : output_of (op.Convolve (kernel 1 1 (negsuc 1 ∷ []))) (grid 1 2 (n 3 ∷ minus 4 ∷ []) ∷ [])
    ≡ grid 1 2 (minus 6 ∷ n 8 ∷ [])
negative = refl

-- ---- block: two by two over 1 to 9, where the last ones are smaller

pub sums : output_of (op.Block fold.Sum 2 2) (nine ∷ []) ≡ grid 2 2 (n 12 ∷ n 9 ∷ n 15 ∷ n 9 ∷ [])
sums = refl

pub sums-back_last : back_of (op.Block fold.Sum 2 2) (nine ∷ []) 0 (3 ∷ []) ≡ at (flat 3 3) (8 ∷ [])
sums-back_last = refl

pub sums-back_first : back_of (op.Block fold.Sum 2 2) (nine ∷ []) 0 (0 ∷ [])
    ≡ at (flat 3 3) (0 ∷ 1 ∷ 3 ∷ 4 ∷ [])
sums-back_first = refl

pub sums-forward : forward_of (op.Block fold.Sum 2 2) (nine ∷ []) 0 (4 ∷ 8 ∷ [])
    ≡ at (flat 2 2) (0 ∷ 3 ∷ [])
sums-forward = refl

-- one row by two columns, and two rows by one column
pub wide : output_of (op.Block fold.Max 1 2) (six ∷ []) ≡ grid 2 2 (n 2 ∷ n 3 ∷ n 5 ∷ n 6 ∷ [])
wide = refl

pub high : output_of (op.Block fold.Min 2 1) (six ∷ []) ≡ grid 1 3 (n 1 ∷ n 2 ∷ n 3 ∷ [])
high = refl

pub high-back : back_of (op.Block fold.Min 2 1) (six ∷ []) 0 (1 ∷ []) ≡ at (flat 2 3) (1 ∷ 4 ∷ [])
high-back = refl

-- a block larger than the array is one block
pub one-block : output_of (op.Block fold.Count 5 7) (six ∷ []) ≡ grid 1 1 (n 6 ∷ [])
one-block = refl

-- empty cells are not folded, but are of the block's lineage
abbrev gaps : Grid
gaps = grid 1 4 (n 7 ∷ none ∷ none ∷ none ∷ [])

pub gaps-sum : output_of (op.Block fold.Sum 1 2) (gaps ∷ []) ≡ grid 1 2 (n 7 ∷ none ∷ [])
gaps-sum = refl

pub gaps-min : output_of (op.Block fold.Min 1 2) (gaps ∷ []) ≡ grid 1 2 (n 7 ∷ none ∷ [])
gaps-min = refl

pub gaps-max : output_of (op.Block fold.Max 1 2) (gaps ∷ []) ≡ grid 1 2 (n 7 ∷ none ∷ [])
gaps-max = refl

pub gaps-count : output_of (op.Block fold.Count 1 2) (gaps ∷ []) ≡ grid 1 2 (n 1 ∷ n 0 ∷ [])
gaps-count = refl

pub gaps-back : back_of (op.Block fold.Min 1 2) (gaps ∷ []) 0 (1 ∷ []) ≡ at (flat 1 4) (2 ∷ 3 ∷ [])
gaps-back = refl

pub block-fitted_once : output_of (op.Block fold.Sum 1 3)
    (grid 1 3 (n (2 ^ 63 - 1) ∷ n 1 ∷ minus 1 ∷ []) ∷ []) ≡ grid 1 1 (n (2 ^ 63 - 1) ∷ [])
block-fitted_once = refl

pub block-past : output_of (op.Block fold.Sum 1 2) (grid 1 2 (n (2 ^ 63 - 1) ∷ n 1 ∷ []) ∷ [])
    ≡ grid 1 1 (none ∷ [])
block-past = refl

-- ---- lookup

pub found : output_of op.Lookup
    (grid 2 3 (n 0 ∷ n 1 ∷ n 2 ∷ none ∷ minus 1 ∷ n 7 ∷ []) ∷ grid 1 2 (n 10 ∷ n 20 ∷ []) ∷ [])
    ≡ grid 2 3 (n 10 ∷ n 20 ∷ none ∷ none ∷ none ∷ none ∷ [])
found = refl

pub found-past : output_of op.Lookup (grid 1 1 (n 7 ∷ []) ∷ grid 1 3 (n 10 ∷ n 20 ∷ n 30 ∷ []) ∷ [])
    ≡ grid 1 1 (none ∷ [])
found-past = refl

pub found-past_back : back_of op.Lookup (grid 1 1 (n 7 ∷ []) ∷ grid 1 3 (n 10 ∷ n 20 ∷ n 30 ∷ []) ∷ [])
    1 (0 ∷ []) ≡ at (flat 1 3) []
found-past_back = refl

pub found-same_cell : back_of op.Lookup (grid 1 1 (n 7 ∷ []) ∷ grid 1 3 (n 10 ∷ n 20 ∷ n 30 ∷ []) ∷ [])
    0 (0 ∷ []) ≡ at (flat 1 1) (0 ∷ [])
found-same_cell = refl

pub found-forward : forward_of op.Lookup
    (grid 1 3 (n 0 ∷ n 0 ∷ n 1 ∷ []) ∷ grid 1 2 (n 10 ∷ n 20 ∷ []) ∷ []) 1 (0 ∷ [])
    ≡ at (flat 1 3) (0 ∷ 1 ∷ [])
found-forward = refl

-- a table's empty cell is related too
pub found-empty : output_of op.Lookup (grid 1 1 (n 1 ∷ []) ∷ grid 1 2 (n 10 ∷ none ∷ []) ∷ [])
    ≡ grid 1 1 (none ∷ [])
found-empty = refl

pub found-empty_back : back_of op.Lookup (grid 1 1 (n 1 ∷ []) ∷ grid 1 2 (n 10 ∷ none ∷ []) ∷ []) 1
    (0 ∷ []) ≡ at (flat 1 2) (1 ∷ [])
found-empty_back = refl

-- ---- regions

pub labelled : output_of (op.Regions (pos 5)) (hills ∷ [])
    ≡ grid 3 3 (n 1 ∷ n 1 ∷ n 0 ∷ n 0 ∷ n 1 ∷ n 0 ∷ n 7 ∷ n 0 ∷ n 0 ∷ [])
labelled = refl

pub labelled-back : back_of (op.Regions (pos 5)) (hills ∷ []) 0 (4 ∷ [])
    ≡ at (flat 3 3) (0 ∷ 1 ∷ 4 ∷ [])
labelled-back = refl

pub labelled-forward : forward_of (op.Regions (pos 5)) (hills ∷ []) 0 (0 ∷ 2 ∷ [])
    ≡ at (flat 3 3) (0 ∷ 1 ∷ 2 ∷ 4 ∷ [])
labelled-forward = refl

-- a cell that is not high is related to itself, and one that holds the threshold is high
pub labelled-low : back_of (op.Regions (pos 5)) (hills ∷ []) 0 (3 ∷ []) ≡ at (flat 3 3) (3 ∷ [])
labelled-low = refl

pub labelled-edge : output_of (op.Regions (pos 5)) (grid 1 4 (n 4 ∷ n 5 ∷ none ∷ n 5 ∷ []) ∷ [])
    ≡ grid 1 4 (n 0 ∷ n 2 ∷ n 0 ∷ n 4 ∷ [])
labelled-edge = refl

-- a region that winds, from its one end to the other
pub winding : back_of (op.Regions (pos 5))
    (grid 3 3 (n 9 ∷ n 9 ∷ n 9 ∷ n 0 ∷ n 0 ∷ n 9 ∷ n 9 ∷ n 9 ∷ n 9 ∷ []) ∷ []) 0 (6 ∷ [])
    ≡ at (flat 3 3) (0 ∷ 1 ∷ 2 ∷ 5 ∷ 6 ∷ 7 ∷ 8 ∷ [])
winding = refl

-- the last cell of a row and the first of the next are no neighbours
pub no-wrap : output_of (op.Regions (pos 5)) (grid 2 2 (n 0 ∷ n 9 ∷ n 9 ∷ n 0 ∷ []) ∷ [])
    ≡ grid 2 2 (n 0 ∷ n 2 ∷ n 3 ∷ n 0 ∷ [])
no-wrap = refl

-- the pixel between two regions is raised: they are joined, and the label of the second changes, though its cell was
-- not related to that pixel. So the old relation alone does not tell on what a label depends
abbrev apart : Grid
apart = grid 1 3 (n 9 ∷ n 0 ∷ n 9 ∷ [])

abbrev joined : Grid
joined = grid 1 3 (n 9 ∷ n 9 ∷ n 9 ∷ [])

pub apart-labels : output_of (op.Regions (pos 5)) (apart ∷ []) ≡ grid 1 3 (n 1 ∷ n 0 ∷ n 3 ∷ [])
apart-labels = refl

pub apart-back : back_of (op.Regions (pos 5)) (apart ∷ []) 0 (2 ∷ []) ≡ at (flat 1 3) (2 ∷ [])
apart-back = refl

pub joined-labels : output_of (op.Regions (pos 5)) (joined ∷ []) ≡ grid 1 3 (n 1 ∷ n 1 ∷ n 1 ∷ [])
joined-labels = refl

pub joined-back : back_of (op.Regions (pos 5)) (joined ∷ []) 0 (2 ∷ []) ≡ at (flat 1 3) (0 ∷ 1 ∷ 2 ∷ [])
joined-back = refl

-- ---- clean

abbrev spike : Grid
spike = grid 2 2 (n 1 ∷ n 2 ∷ n 300 ∷ n 4 ∷ [])

pub cleaned : output_of (op.Clean (pos 100)) (spike ∷ []) ≡ grid 2 2 (n 1 ∷ n 2 ∷ n 1 ∷ n 4 ∷ [])
cleaned = refl

pub cleaned-back : back_of (op.Clean (pos 100)) (spike ∷ []) 0 (2 ∷ [])
    ≡ at (flat 2 2) (0 ∷ 1 ∷ 2 ∷ 3 ∷ [])
cleaned-back = refl

pub cleaned-back_low : back_of (op.Clean (pos 100)) (spike ∷ []) 0 (1 ∷ []) ≡ at (flat 2 2) (1 ∷ [])
cleaned-back_low = refl

pub cleaned-forward : forward_of (op.Clean (pos 100)) (spike ∷ []) 0 (0 ∷ []) ≡ at (flat 2 2) (0 ∷ 2 ∷ [])
cleaned-forward = refl

-- a cell that holds the threshold is hot; hot and empty neighbours do not count; without another neighbour it
-- becomes empty
pub cleaned-edge : output_of (op.Clean (pos 5)) (grid 1 5 (n 5 ∷ n 6 ∷ none ∷ n 7 ∷ n 4 ∷ []) ∷ [])
    ≡ grid 1 5 (none ∷ none ∷ none ∷ n 4 ∷ n 4 ∷ [])
cleaned-edge = refl

-- the square reaches one row and one column to each side, and no further: here round the middle of five by five
pub cleaned-square : back_of (op.Clean (pos 5))
    (grid 5 5 (map (λ k. if k == 12 then n 9 else n 1) (range_with_len 0 25)) ∷ []) 0 (12 ∷ [])
    ≡ at (flat 5 5) (6 ∷ 7 ∷ 8 ∷ 11 ∷ 12 ∷ 13 ∷ 16 ∷ 17 ∷ 18 ∷ [])
cleaned-square = refl

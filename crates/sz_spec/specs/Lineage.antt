-- Lineage of one operator: a relation on single cells, and the images of sets under a relation.
use Rattle.std.specs.Prelude.{ℕ, ◌+◌, ◌/◌, List, Bool, ◌&&◌, ◌||◌, ◌==◌, nat_lt}
use Rattle.std.specs.Prelude.{if◌then◌else◌}
use Rattle.sz_cells.specs.declared.Cell.{Cell}
use Rattle.sz_cells.specs.Extent.{Extent, layer_of, row_in}
use Rattle.sz_cells.specs.Cells.{Cells, is_same, cells_where, any_cell}
use Rattle.sz_spec.specs.declared.op.Op.{Op}
use Rattle.sz_spec.specs.declared.op.Op.TheVariants.{Add, Sub, Mul, Min, Max, Transpose, Slice}
use Rattle.sz_spec.specs.declared.op.Op.TheVariants.{Convolve, Block, Lookup, Regions, Clean}
use Rattle.sz_spec.specs.declared.op.Op.TheVariants.{FoldLayers}
use Rattle.sz_spec.specs.Values.{Grid, input_at, extent_at, extents_of}
use Rattle.sz_spec.specs.Shapes.{output_extent}
use Rattle.sz_spec.specs.Operators.Convolve.{is_convolved}
use Rattle.sz_spec.specs.Operators.Lookup.{match_of, is_entry}
use Rattle.sz_spec.specs.Operators.Regions.{is_high, is_connected}
use Rattle.sz_spec.specs.Operators.Clean.{is_hot, is_in_square}

-- output cell o and cell x of the first input are of one layer
abbrev pub same_layer : Extent → Extent → Cell → Cell → Bool
same_layer out e o x = layer_of e x == layer_of out o

-- Output cell o is mapped to cell x of input i, by shapes alone: for an operator that supports Map
-- this is its relation, and for the others it is the composite default. `e` is the shape of the
-- first input, and `out` that of the output.
abbrev pub mapped_between : Extent → Extent → Op → ℕ → Cell → Cell → Bool
mapped_between e out Add i o x = nat_lt i 2 && is_same x o
mapped_between e out Sub i o x = nat_lt i 2 && is_same x o
mapped_between e out Mul i o x = nat_lt i 2 && is_same x o
mapped_between e out Min i o x = nat_lt i 2 && is_same x o
mapped_between e out Max i o x = nat_lt i 2 && is_same x o
mapped_between e out Transpose i o x =
    (i == 0) && same_layer out e o x && (row_in e x == o.col) && (x.col == row_in out o)
mapped_between e out (Slice r0 c0 h w) i o x =
    (i == 0) && same_layer out e o x && (row_in e x == r0 + row_in out o) && (x.col == c0 + o.col)
mapped_between e out (Convolve kernel) i o x = (i == 0) && is_convolved e kernel o x
mapped_between e out (Block fold h w) i o x =
    (i == 0) && same_layer out e o x && (row_in e x / h == row_in out o) && (x.col / w == o.col)
mapped_between e out (FoldLayers fold) i o x = (i == 0) && (row_in e x == o.row) && (x.col == o.col)
mapped_between e out _ i o x = (i == 0) && is_same x o

abbrev pub mapped : Op → List Extent → ℕ → Cell → Cell → Bool
mapped op ins i o x = mapped_between (extent_at ins 0) (output_extent op ins) op i o x

-- output cell o of the operator is related to cell x of its input i
abbrev pub related : Op → List Grid → ℕ → Cell → Cell → Bool
related Lookup inputs i o x =
    ((i == 0) && is_same x o)
    || ((i == 1) && is_entry (match_of (input_at inputs 0) (input_at inputs 1) o) x)
related (Regions t) inputs i o x = let g = input_at inputs 0 in
    (i == 0) && (if is_high t g o then is_connected t g o x else is_same x o)
related (Clean t) inputs i o x = let g = input_at inputs 0 in
    (i == 0) && (if is_hot t g o then is_in_square g.extent o x else is_same x o)
related op inputs i o x = mapped op (extents_of inputs) i o x

-- the cells x of a shape to which some o of the set is related
abbrev pub back : (Cell → Cell → Bool) → Extent → Cells → Cells
back relation e set = cells_where e (λ x. any_cell (λ o. relation o x) set)

-- the cells o of a shape that are related to some x of the set
abbrev pub forward : (Cell → Cell → Bool) → Extent → Cells → Cells
forward relation e set = cells_where e (λ o. any_cell (λ x. relation o x) set)

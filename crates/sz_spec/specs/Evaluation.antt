-- What an operator makes of its inputs: the value of each output cell, and the output.
use Rattle.std.specs.Prelude.{ℕ, ℤ, neg_ℤ, ◌+ℤ◌, ◌-ℤ◌, ◌*ℤ◌, ◌+◌, List, map, Option, Some}
use Rattle.std.specs.List.{range_with_len}
use Rattle.std.specs.Int.{int_min, int_max}
use Rattle.sz_cells.specs.declared.Cell.{Cell}
use Rattle.sz_cells.specs.Extent.{Extent, size_of, cell_of, layer_of, row_in, cell_in}
use Rattle.sz_cells.specs.Cells.{cells_where}
use Rattle.sz_spec.specs.declared.op.Op.{Op}
use Rattle.sz_spec.specs.declared.op.Op.TheVariants.{Neg, Abs, AddK, MulK, Clip, Add, Sub, Mul, Min}
use Rattle.sz_spec.specs.declared.op.Op.TheVariants.{Max, Transpose, Slice, Convolve, Block, Lookup}
use Rattle.sz_spec.specs.declared.op.Op.TheVariants.{Regions, Clean, FoldLayers}
use Rattle.sz_spec.specs.Values.{Grid, fit, value_at, numbers_at, input_at, extents_of, with_number}
use Rattle.sz_spec.specs.Values.{with_numbers}
use Rattle.sz_spec.specs.Shapes.{output_extent}
use Rattle.sz_spec.specs.Lineage.{mapped}
use Rattle.sz_spec.specs.Operators.Elementwise.{absolute, clipped}
use Rattle.sz_spec.specs.Operators.Convolve.{convolved_at}
use Rattle.sz_spec.specs.Operators.Folds.{fold_of}
use Rattle.sz_spec.specs.Operators.Lookup.{looked_up}
use Rattle.sz_spec.specs.Operators.Regions.{labelled_at}
use Rattle.sz_spec.specs.Operators.Clean.{cleaned_at}

-- what f makes of the number at the same cell of the first input, and of the numbers of two inputs
abbrev pub of_one : (ℤ → Option ℤ) → List Grid → Cell → Option ℤ
of_one f inputs o = with_number f (value_at (input_at inputs 0) o)

abbrev pub of_two : (ℤ → ℤ → Option ℤ) → List Grid → Cell → Option ℤ
of_two f inputs o = with_numbers f (value_at (input_at inputs 0) o) (value_at (input_at inputs 1) o)

-- the value at a row and a column of the first input, in the layer of output cell o
abbrev pub in_layer_of : Extent → Cell → Grid → ℕ → ℕ → Option ℤ
in_layer_of out o g row col = value_at g (cell_in g.extent (layer_of out o) row col)

-- the numbers of the first input's cells to which output cell o is mapped
abbrev pub mapped_numbers : Op → List Grid → Cell → List ℤ
mapped_numbers op inputs o = let g = input_at inputs 0 in
    numbers_at g (cells_where g.extent (mapped op (extents_of inputs) 0 o))

-- the value of output cell o, where `out` is the output's shape
abbrev pub value_in : Extent → Op → List Grid → Cell → Option ℤ
value_in out Neg inputs o = of_one (λ z. fit (neg_ℤ z)) inputs o
value_in out Abs inputs o = of_one absolute inputs o
value_in out (AddK k) inputs o = of_one (λ z. fit (z +ℤ k)) inputs o
value_in out (MulK k) inputs o = of_one (λ z. fit (z *ℤ k)) inputs o
value_in out (Clip lo hi) inputs o = of_one (clipped lo hi) inputs o
value_in out Add inputs o = of_two (λ a b. fit (a +ℤ b)) inputs o
value_in out Sub inputs o = of_two (λ a b. fit (a -ℤ b)) inputs o
value_in out Mul inputs o = of_two (λ a b. fit (a *ℤ b)) inputs o
value_in out Min inputs o = of_two (λ a b. Some (int_min a b)) inputs o
value_in out Max inputs o = of_two (λ a b. Some (int_max a b)) inputs o
value_in out Transpose inputs o = in_layer_of out o (input_at inputs 0) o.col (row_in out o)
value_in out (Slice r0 c0 h w) inputs o =
    in_layer_of out o (input_at inputs 0) (r0 + row_in out o) (c0 + o.col)
value_in out (Convolve kernel) inputs o = convolved_at kernel (input_at inputs 0) o
value_in out (Block fold h w) inputs o = fold_of fold (mapped_numbers (Block fold h w) inputs o)
value_in out Lookup inputs o = looked_up (input_at inputs 0) (input_at inputs 1) o
value_in out (Regions t) inputs o = labelled_at t (input_at inputs 0) o
value_in out (Clean t) inputs o = cleaned_at t (input_at inputs 0) o
value_in out (FoldLayers fold) inputs o = fold_of fold (mapped_numbers (FoldLayers fold) inputs o)

abbrev pub value_of : Op → List Grid → Cell → Option ℤ
value_of op inputs o = value_in (output_extent op (extents_of inputs)) op inputs o

-- an operator's output: at each cell its value
abbrev pub output_of : Op → List Grid → Grid
output_of op inputs = let e = output_extent op (extents_of inputs) in record {
  extent = e;
  values = map (λ k. value_of op inputs (cell_of e k)) (range_with_len 0 (size_of e));
}

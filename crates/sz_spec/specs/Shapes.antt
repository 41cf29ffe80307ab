-- What the operators take and give: how many inputs, which parameters are right, and the shape of
-- the output.
use Rattle.std.specs.Prelude.{◌≡◌, ℕ, ◌+◌, ◌==◌, List}
use Rattle.std.specs.Prelude.{length, Bool, true, ◌&&◌, nat_le, int_le}
use Rattle.std.specs.Prelude.{if◌then◌else◌, Result, Ok, Err}
use Rattle.std.specs.Result.{result_unwrap_or, result_map_both}
use Rattle.sz_cells.specs.Extent.{Extent, height_of, layered, flat}
use Rattle.sz_spec.specs.declared.op.Op.{Op}
use Rattle.sz_spec.specs.declared.op.Op.TheVariants.{Clip, Add, Sub, Mul, Min}
use Rattle.sz_spec.specs.declared.op.Op.TheVariants.{Max, Transpose, Slice, Convolve, Block, Lookup}
use Rattle.sz_spec.specs.declared.op.Op.TheVariants.{FoldLayers}
use Rattle.sz_spec.specs.declared.shapes.ShapeFault.{ShapeFault}
use Rattle.sz_spec.specs.declared.shapes.ShapeFault.TheVariants.{Unequal, OutOfRange, NotOneRow}
use Rattle.sz_spec.specs.Values.{extent_at, no_extent}
use Rattle.sz_spec.specs.Weights.{is_kernel}
use Rattle.sz_spec.specs.Operators.Folds.{blocks_over}

-- how many inputs an operator has
abbrev pub arity : Op → ℕ
arity Add = 2
arity Sub = 2
arity Mul = 2
arity Min = 2
arity Max = 2
arity Lookup = 2
arity _ = 1

-- its parameters keep their rules
abbrev pub has_right_parameters : Op → Bool
has_right_parameters (Clip lo hi) = int_le lo hi
has_right_parameters (Slice r0 c0 h w) = nat_le 1 h && nat_le 1 w
has_right_parameters (Convolve kernel) = is_kernel kernel
has_right_parameters (Block fold h w) = nat_le 1 h && nat_le 1 w
has_right_parameters _ = true

-- two shapes are one
abbrev pub are_equal : Extent → Extent → Bool
are_equal d e = (d.layers == e.layers) && (d.rows == e.rows) && (d.cols == e.cols)

-- the shape of the second input is that of the first
abbrev pub same_shape : List Extent → Result Extent ShapeFault
same_shape ins = if are_equal (extent_at ins 0) (extent_at ins 1)
    then Ok (extent_at ins 0) else Err Unequal

-- the shape of so many rows and columns in each layer of a shape
abbrev pub each_layer : Extent → ℕ → ℕ → Extent
each_layer e height cols = layered e.layers height cols

abbrev pub sliced : Extent → ℕ → ℕ → ℕ → ℕ → Result Extent ShapeFault
sliced e r0 c0 h w = if nat_le (r0 + h) (height_of e) && nat_le (c0 + w) e.cols
    then Ok (each_layer e h w) else Err OutOfRange

-- the shape of an operator's output, or the shape rule that its inputs break
abbrev pub shape_of : Op → List Extent → Result Extent ShapeFault
shape_of Add ins = same_shape ins
shape_of Sub ins = same_shape ins
shape_of Mul ins = same_shape ins
shape_of Min ins = same_shape ins
shape_of Max ins = same_shape ins
shape_of Transpose ins = let e = extent_at ins 0 in Ok (each_layer e e.cols (height_of e))
shape_of (Slice r0 c0 h w) ins = sliced (extent_at ins 0) r0 c0 h w
shape_of (Block fold h w) ins = let e = extent_at ins 0 in
    Ok (each_layer e (blocks_over (height_of e) h) (blocks_over e.cols w))
shape_of Lookup ins = if (extent_at ins 1).rows == 1 then Ok (extent_at ins 0) else Err NotOneRow
shape_of (FoldLayers fold) ins = Ok (flat (height_of (extent_at ins 0)) (extent_at ins 0).cols)
shape_of _ ins = Ok (extent_at ins 0)

-- the shape of an operator's output, where its shape rule holds
abbrev pub output_extent : Op → List Extent → Extent
output_extent op ins = result_unwrap_or (shape_of op ins) no_extent

-- an operator with the shapes that it works between
pub record Site : Type 0 where
  pub op : Op
  pub ins : List Extent
  pub out : Extent

-- the operator has as many inputs as it takes, its parameters are right, and the output has the
-- shape that its rule gives
pub record IsSite (s : Site) : Type 0 where
  pub arity : length s.ins ≡ arity s.op
  pub parameters : has_right_parameters s.op ≡ true
  pub shape : shape_of s.op s.ins ≡ Ok s.out

-- an operator with inputs of these shapes, or the shape rule that they break
abbrev pub site_of : Op → List Extent → Result Site ShapeFault
site_of op ins =
    result_map_both (λ out. record { op = op; ins = ins; out = out }) (λ f. f) (shape_of op ins)

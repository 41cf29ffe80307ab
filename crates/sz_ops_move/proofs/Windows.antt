-- Places of cells in layers, and what transpose and slice make of them.
--
-- The key idea: a mapping tests the layer, the row in it and the column of a cell, and so it tests one place.
use Rattle.std.proofs.Common.{◌≡◌, ℕ, ◌+◌, ◌-◌, ◌<◌, ◌≤◌, true, ◌&&◌, ◌==◌, sym, ap, ◌∙◌, arith}
use Rattle.std.specs.Prelude.{Result, Ok}
use Rattle.std.specs.Result.{result_unwrap_or}
use Rattle.std.proofs.lemmas.Bool.Decides.{nat_tests}
use Rattle.sz_cells.specs.declared.Cell.{Cell}
use Rattle.sz_cells.specs.Extent.{Extent, height_of, layered, is_extent, is_place, holds, layer_of, row_in}
use Rattle.sz_cells.proofs.Shapes.{sides, height-layered}
use Rattle.sz_spec.specs.declared.op.Op.TheVariants.{Transpose, Slice}
use Rattle.sz_spec.specs.declared.shapes.ShapeFault.{ShapeFault}
use Rattle.sz_spec.specs.Values.{extent_at, no_extent}
use Rattle.sz_spec.specs.Shapes.{Site, shape_of, output_extent}
use Rattle.sz_spec.specs.Lineage.{mapped, mapped_between}
use Rattle.sz_spec.proofs.OutputShapes.{sliced-within}
use Rattle.sz_frame.proofs.Places.{is_at, own-place, place-from}

-- the layers of some height have that height
pub height-is : (out e : Extent) (height cols : ℕ) → is_extent e ≡ true → layered e.layers height cols ≡ out
    → height_of out ≡ height
height-is out e height cols right made =
    sym (ap height_of made) ∙ height-layered e.layers height cols (sides e right).0

-- ---- transpose

-- the shape of the output
pub transposed : (s : Site) → s.op ≡ Transpose → shape_of s.op s.ins ≡ Ok s.out
    → layered (extent_at s.ins 0).layers (extent_at s.ins 0).cols (height_of (extent_at s.ins 0)) ≡ s.out
transposed s is rule =
    ap (λ (r : Result Extent ShapeFault). result_unwrap_or r no_extent)
    (ap (λ op. shape_of op s.ins) (sym is) ∙ rule)

-- the input has the place that a cell of the output comes from
pub transpose-back : (s : Site) (o : Cell) → s.op ≡ Transpose → shape_of s.op s.ins ≡ Ok s.out
    → is_extent (extent_at s.ins 0) ≡ true → is_extent s.out ≡ true → holds s.out o ≡ true
    → is_place (extent_at s.ins 0) (layer_of s.out o) o.col (row_in s.out o) ≡ true
transpose-back s o is rule right right' held =
    let e = extent_at s.ins 0 in
    let made = transposed s is rule in
    let high = height-is s.out e e.cols (height_of e) right made in
    let layers : s.out.layers ≡ e.layers = sym (ap (λ (d : Extent). d.layers) made) in
    let cols : s.out.cols ≡ height_of e = sym (ap (λ (d : Extent). d.cols) made) in
    let own = own-place s.out o right' held in
    place-from e (layer_of s.out o) o.col (row_in s.out o) (omega (arith, own.0, layers)) (omega (arith, own.2, cols))
    (omega (arith, own.1, high))

-- and the output the place that a cell of the input goes to
pub transpose-on : (s : Site) (x : Cell) → s.op ≡ Transpose → shape_of s.op s.ins ≡ Ok s.out
    → is_extent (extent_at s.ins 0) ≡ true → holds (extent_at s.ins 0) x ≡ true
    → is_place s.out (layer_of (extent_at s.ins 0) x) x.col (row_in (extent_at s.ins 0) x) ≡ true
transpose-on s x is rule right held =
    let e = extent_at s.ins 0 in
    let made = transposed s is rule in
    let high = height-is s.out e e.cols (height_of e) right made in
    let layers : s.out.layers ≡ e.layers = sym (ap (λ (d : Extent). d.layers) made) in
    let cols : s.out.cols ≡ height_of e = sym (ap (λ (d : Extent). d.cols) made) in
    let own = own-place e x right held in
    place-from s.out (layer_of e x) x.col (row_in e x) (omega (arith, own.0, layers)) (omega (arith, own.2, high))
    (omega (arith, own.1, cols))

-- the mapping tests the place that a cell of the output comes from
pub transpose-mapped : (s : Site) (o x : Cell) → s.op ≡ Transpose → shape_of s.op s.ins ≡ Ok s.out
    → mapped Transpose s.ins 0 o x ≡ is_at (extent_at s.ins 0) (layer_of s.out o) o.col (row_in s.out o) x
transpose-mapped s o x is rule =
    ap (λ (d : Extent). mapped_between (extent_at s.ins 0) d Transpose 0 o x) (transposed s is rule)

turned : (a b c d e f : ℕ) → (((a == b) && (c == d)) && (e == f)) ≡ (((b == a) && (f == e)) && (d == c))
turned a b c d e f = grind (arith, nat_tests)

-- seen from the input, the place that a cell goes to
pub transpose-mapped_on : (s : Site) (o x : Cell) → s.op ≡ Transpose → shape_of s.op s.ins ≡ Ok s.out
    → mapped Transpose s.ins 0 o x
    ≡ is_at s.out (layer_of (extent_at s.ins 0) x) x.col (row_in (extent_at s.ins 0) x) o
transpose-mapped_on s o x is rule =
    let e = extent_at s.ins 0 in
    transpose-mapped s o x is rule
    ∙ turned (layer_of e x) (layer_of s.out o) (row_in e x) o.col x.col (row_in s.out o)

-- ---- slice

-- the window is within each layer, and the output has its shape
pub windowed : (s : Site) (r0 c0 h w : ℕ) → s.op ≡ Slice r0 c0 h w → shape_of s.op s.ins ≡ Ok s.out
    → (r0 + h ≤ height_of (extent_at s.ins 0)) × (c0 + w ≤ (extent_at s.ins 0).cols)
    × (layered (extent_at s.ins 0).layers h w ≡ s.out)
windowed s r0 c0 h w is rule =
    sliced-within (extent_at s.ins 0) r0 c0 h w s.out (ap (λ op. shape_of op s.ins) (sym is) ∙ rule)

pub slice-back : (s : Site) (r0 c0 h w : ℕ) (o : Cell) → s.op ≡ Slice r0 c0 h w
    → shape_of s.op s.ins ≡ Ok s.out
    → is_extent (extent_at s.ins 0) ≡ true → is_extent s.out ≡ true → holds s.out o ≡ true
    → (layer_of s.out o < (extent_at s.ins 0).layers) × (r0 + row_in s.out o < height_of (extent_at s.ins 0))
    × (c0 + o.col < (extent_at s.ins 0).cols)
slice-back s r0 c0 h w o is rule right right' held =
    let e = extent_at s.ins 0 in
    let told = windowed s r0 c0 h w is rule in
    let high = height-is s.out e h w right told.2 in
    let layers : s.out.layers ≡ e.layers = sym (ap (λ (d : Extent). d.layers) told.2) in
    let cols : s.out.cols ≡ w = sym (ap (λ (d : Extent). d.cols) told.2) in
    let own = own-place s.out o right' held in
    (omega (arith, own.0, layers), omega (arith, own.1, high, told.0), omega (arith, own.2, cols, told.1))

pub slice-mapped : (s : Site) (r0 c0 h w : ℕ) (o x : Cell) → s.op ≡ Slice r0 c0 h w
    → shape_of s.op s.ins ≡ Ok s.out
    → mapped (Slice r0 c0 h w) s.ins 0 o x
    ≡ is_at (extent_at s.ins 0) (layer_of s.out o) (r0 + row_in s.out o) (c0 + o.col) x
slice-mapped s r0 c0 h w o x is rule =
    let made : output_extent (Slice r0 c0 h w) s.ins ≡ s.out =
    ap (λ (r : Result Extent ShapeFault). result_unwrap_or r no_extent)
    (ap (λ op. shape_of op s.ins) (sym is) ∙ rule) in
    ap (λ (d : Extent). mapped_between (extent_at s.ins 0) d (Slice r0 c0 h w) 0 o x) made

moved : (a b c d e f r k : ℕ) → r ≤ c → k ≤ e → (((a == b) && (c == r + d)) && (e == k + f))
    ≡ (((b == a) && (d == c - r)) && (f == e - k))
moved a b c d e f r k low left = grind (arith, nat_tests, low, left)

pub slice-mapped_on : (s : Site) (r0 c0 h w : ℕ) (o x : Cell) → s.op ≡ Slice r0 c0 h w
    → shape_of s.op s.ins ≡ Ok s.out
    → r0 ≤ row_in (extent_at s.ins 0) x → c0 ≤ x.col
    → mapped (Slice r0 c0 h w) s.ins 0 o x
    ≡ is_at s.out (layer_of (extent_at s.ins 0) x) (row_in (extent_at s.ins 0) x - r0) (x.col - c0) o
slice-mapped_on s r0 c0 h w o x is rule low left =
    let e = extent_at s.ins 0 in
    slice-mapped s r0 c0 h w o x is rule
    ∙ moved (layer_of e x) (layer_of s.out o) (row_in e x) (row_in s.out o) x.col o.col r0 c0 low left

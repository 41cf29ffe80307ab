-- The windows of which blocks are made.
--
-- The key idea: a quotient is a number exactly where the dividend lies between that number times the divisor and the
-- next multiple. So the row in its layer and the column of a cell are of a block exactly where they lie between two
-- multiples of the block's sides, and in the layer.
use Rattle.std.proofs.Common.{◌≡◌, ℕ, ◌+◌, ◌-◌, ◌*◌, ◌/◌, ◌%◌, ◌<◌, ◌≤◌, min, Bool, true, false, ◌&&◌, ◌==◌}
use Rattle.std.proofs.Common.{nat_le, nat_lt, refl, sym, ap, subst, ◌∙◌, arith, inl, inr}
use Rattle.std.proofs.Common.{eq-eqb, List, [], ◌∷◌, length}
use Rattle.std.specs.Prelude.{Result, Ok}
use Rattle.std.specs.Result.{result_unwrap_or}
use Rattle.std.proofs.Math.Bool.{and-false}
use Rattle.std.proofs.Math.Nat.{mul-le-mul_right}
use Rattle.std.proofs.lemmas.Bool.{cases_order, cases_lt}
use Rattle.std.proofs.lemmas.Bool.Decides.{nat_tests}
use Rattle.std.proofs.lemmas.Nat.{div-add-mod'}
use Rattle.sz_cells.specs.declared.Cell.{Cell}
use Rattle.sz_cells.specs.Extent.{Extent, height_of, layered, is_extent, holds, layer_of, row_in, is_place}
use Rattle.sz_cells.specs.Cells.{cells_where}
use Rattle.sz_cells.proofs.Shapes.{sides, height-layered}
use Rattle.sz_cells.proofs.Sets.{row-held, cells_where-ext}
use Rattle.sz_spec.specs.declared.op.Op.TheVariants.{Block}
use Rattle.sz_spec.specs.declared.op.Fold.{Fold}
use Rattle.sz_spec.specs.declared.shapes.ShapeFault.{ShapeFault}
use Rattle.sz_spec.specs.Values.{Grid, input_at, extent_at, no_extent, numbers_at}
use Rattle.sz_spec.specs.Shapes.{Site, shape_of}
use Rattle.sz_spec.specs.Operators.Folds.{blocks_over, fold_of}
use Rattle.sz_spec.specs.Lineage.{mapped, mapped_between}
use Rattle.sz_spec.specs.Evaluation.{mapped_numbers, value_of}
use Rattle.sz_spec.proofs.PayloadLineage.{extent-of_input}
use Rattle.sz_spec.proofs.CodeSquare.{layer-rows}
use Rattle.sz_frame.proofs.Passing.{eq-flip}
use Rattle.sz_frame.proofs.Places.{is_at, own-place, place-from}
use Rattle.sz_ops_local.specs.Windows.{is_between, IsBlocked}

-- a number times a side, where the number is one of a block's, is below what the blocks are laid over
pub block-below : (n side b : ℕ) → 0 < side → b < blocks_over n side → b * side < n
block-below n side b some low =
    let next : b + 1 ≤ (n + (side - 1)) / side = omega (arith, low) in
    let most : (b + 1) * side ≤ (n + (side - 1)) / side * side = mul-le-mul_right side next in
    let whole = div-add-mod' (n + (side - 1)) side in
    grind (arith, most, whole, some)

-- and the number of a block is below how many there are
pub block-number : (n side k : ℕ) → 0 < side → k < n → k / side < blocks_over n side
block-number n side k some low =
    elim (cases_lt (k / side) (blocks_over n side)) [
      | inl less ↦ less
      | inr more ↦
          let most : (n + (side - 1)) / side * side ≤ k / side * side = mul-le-mul_right side more in
          let whole = div-add-mod' (n + (side - 1)) side in
          let part = div-add-mod' k side in
          absurd (grind (arith, most, whole, part, some, low))
    ]

-- numbers moved up alike keep their order
shifted : (base from to r k : ℕ) → base + r ≡ k
    → (nat_le from r && nat_lt r to) ≡ (nat_le (base + from) k && nat_lt k (base + to))
shifted base from to r k at =
    let a : nat_le from r ≡ nat_le (base + from) k = grind (arith, nat_tests) in
    let b : nat_lt r to ≡ nat_lt k (base + to) = grind (arith, nat_tests) in
    rw (a, b) refl

-- a column is of a block exactly where it lies between the block's columns
pub block-cols : (n side b k : ℕ) → 0 < side → k < n → b * side < n
    → (k / side == b) ≡ (nat_le (b * side) k && nat_lt k (b * side + min side (n - b * side)))
block-cols n side b k some low inside =
    layer-rows k side b some ∙ (let less : nat_lt k (b * side + side) ≡ nat_lt k (b * side + min side (n - b * side)) =
    grind (arith, nat_tests) in ap (λ (t : Bool). nat_le (b * side) k && t) less)

-- a row is of a layer and, in it, between two rows, exactly where it is between these rows of the layer
pub layer-part : (height layer from to k : ℕ) → 0 < height → to ≤ height
    → ((k / height == layer) && (nat_le from (k % height) && nat_lt (k % height) to))
    ≡ (nat_le (layer * height + from) k && nat_lt k (layer * height + to))
layer-part height layer from to k tall inside =
    let whole = div-add-mod' k height in
    let rest : k % height < height = omega arith in
    elim (cases_order (k / height) layer) [
      | inl same ↦
          let at : layer * height + k % height ≡ k = rw same at whole in
          let one : (k / height == layer) ≡ true = eq-eqb (k / height) layer same in
          rw one (shifted (layer * height) from to (k % height) k at)
      | inr apart ↦
          let other : (k / height == layer) ≡ false = grind (arith, nat_tests, apart) in
          rw other
          (elim apart [
            | inl before ↦
                let next : k / height + 1 ≤ layer = omega (arith, before) in
                let above : (k / height + 1) * height ≤ layer * height = mul-le-mul_right height next in
                let no : nat_le (layer * height + from) k ≡ false = grind (arith, nat_tests, above, whole, rest) in
                rw no refl
            | inr after ↦
                let next : layer + 1 ≤ k / height = omega (arith, after) in
                let below : (layer + 1) * height ≤ k / height * height = mul-le-mul_right height next in
                let no : nat_lt k (layer * height + to) ≡ false =
                grind (arith, nat_tests, below, whole, inside) in
                rw no (sym (and-false (nat_le (layer * height + from) k)))
          ])
    ]

-- the cells to which an output cell is mapped are those between the block's rows of its layer and its columns
pub block-window : (e out : Extent) (how : Fold) (h w from to left right : ℕ) (o x : Cell) → is_extent e ≡ true
    → holds e x ≡ true → to ≤ height_of e
    → ((k : ℕ) → k < height_of e → (k / h == row_in out o) ≡ (nat_le from k && nat_lt k to))
    → ((k : ℕ) → k < e.cols → (k / w == o.col) ≡ (nat_le left k && nat_lt k right))
    → mapped_between e out (Block how h w) 0 o x
    ≡ is_between (layer_of out o * height_of e + from) (layer_of out o * height_of e + to) left right x
block-window e out how h w from to left right o x inside held low rows cols =
    let s = sides e inside in
    let tall : 0 < height_of e = s.1 in
    let rest : row_in e x < height_of e = omega (arith, tall) in
    rw (rows (row_in e x) rest, cols x.col (row-held e x held).1)
    (ap (λ (b : Bool). b && (nat_le left x.col && nat_lt x.col right))
    (layer-part (height_of e) (layer_of out o) from to x.row tall low))

-- seen from a cell, the output cells of its block are at one place
pub block-at : (e out : Extent) (how : Fold) (h w : ℕ) (o x : Cell)
    → mapped_between e out (Block how h w) 0 o x ≡ is_at out (layer_of e x) (row_in e x / h) (x.col / w) o
block-at e out how h w o x =
    rw (
      eq-flip (layer_of e x) (layer_of out o),
      eq-flip (row_in e x / h) (row_in out o),
      eq-flip (x.col / w) o.col,
    ) refl

-- what the shape rule says of the two shapes
pub blocked : (s : Site) (how : Fold) (h w : ℕ) → s.op ≡ Block how h w → shape_of s.op s.ins ≡ Ok s.out
    → layered (extent_at s.ins 0).layers (blocks_over (height_of (extent_at s.ins 0)) h)
    (blocks_over (extent_at s.ins 0).cols w) ≡ s.out
blocked s how h w is rule =
    ap (λ (r : Result Extent ShapeFault). result_unwrap_or r no_extent)
    (ap (λ op. shape_of op s.ins) (sym is) ∙ rule)

pub block-sides : (e out : Extent) (h w : ℕ) → is_extent e ≡ true → is_extent out ≡ true → 0 < h → 0 < w
    → layered e.layers (blocks_over (height_of e) h) (blocks_over e.cols w) ≡ out → IsBlocked e out h w
block-sides e out h w right right' tall wide made = record {
  right = right;
  made = right';
  tall = tall;
  wide = wide;
  layers = sym (ap (λ (d : Extent). d.layers) made);
  height = sym (ap height_of made)
      ∙ height-layered e.layers (blocks_over (height_of e) h) (blocks_over e.cols w) (sides e right).0;
  cols = sym (ap (λ (d : Extent). d.cols) made);
}

-- the numbers of the block of a cell are a place of the output
pub block-place : (e out : Extent) (h w : ℕ) (x : Cell) → IsBlocked e out h w → holds e x ≡ true
    → is_place out (layer_of e x) (row_in e x / h) (x.col / w) ≡ true
block-place e out h w x b held =
    let own = own-place e x b.right held in
    let row : row_in e x / h < blocks_over (height_of e) h = block-number (height_of e) h (row_in e x) b.tall own.1 in
    let col : x.col / w < blocks_over e.cols w = block-number e.cols w x.col b.wide own.2 in
    place-from out (layer_of e x) (row_in e x / h) (x.col / w) (omega (arith, own.0, b.layers))
    (subst (λ (n : ℕ). row_in e x / h < n) (sym b.height) row) (subst (λ (n : ℕ). x.col / w < n) (sym b.cols) col)

-- the numbers of a window that has the cells of a block are those of which its output cell is made
pub block-numbers : (g : Grid) (ins : List Extent) (how : Fold) (h w : ℕ) (o : Cell) (p : Cell → Bool)
    → g.extent ≡ extent_at ins 0
    → ((x : Cell) → holds (extent_at ins 0) x ≡ true → mapped (Block how h w) ins 0 o x ≡ p x)
    → numbers_at g (cells_where g.extent p) ≡ mapped_numbers (Block how h w) (g ∷ []) o
block-numbers g ins how h w o p same cells =
    let test : Extent → Cell → Bool = λ e. mapped (Block how h w) (e ∷ []) 0 o in
    ap (numbers_at g)
    (cells_where-ext g.extent p (test g.extent)
    (λ x held. sym (ap (λ (e : Extent). test e x) same
    ∙ cells x (subst (λ (e : Extent). holds e x ≡ true) same held))))

-- there is one input
pub block-input : (ins : List Extent) (i : ℕ) → length ins ≡ 1 → i < length ins → i ≡ 0
block-input ins i one few = omega (arith, one, few)

-- only the first input is read
pub block-one : (grids : List Grid) (how : Fold) (h w : ℕ) (o : Cell)
    → value_of (Block how h w) (input_at grids 0 ∷ []) o ≡ value_of (Block how h w) grids o
block-one grids how h w o =
    let g = input_at grids 0 in
    ap (λ (e : Extent). fold_of how (numbers_at g (cells_where g.extent (mapped (Block how h w) (e ∷ []) 0 o))))
    (sym (extent-of_input grids 0))

-- Operators of which each output cell is mapped to some cell of the input.
--
-- The key idea: the first cell of a block, the cell of the first layer, and the one cell to which a transpose or a
-- slice leads are at a place of the input's shape.
use Rattle.std.proofs.Common.{◌≡◌, ℕ, ◌+◌, ◌-◌, ◌*◌, ◌/◌, ◌<◌, ◌≤◌, true, ◌&&◌, ◌==◌}
use Rattle.std.proofs.Common.{sym, ap, subst, ◌∙◌, arith, eq-eqb}
use Rattle.std.proofs.Math.Nat.{mul-le-mul_right}
use Rattle.std.proofs.lemmas.Bool.{and_from}
use Rattle.std.proofs.lemmas.Nat.{div-add-mod', div-mul-add}
use Rattle.sz_cells.specs.declared.Cell.{Cell}
use Rattle.sz_cells.specs.Extent.{Extent, height_of, layered, flat, is_extent, holds, layer_of, row_in, cell_in}
use Rattle.sz_cells.proofs.Shapes.{sides, height-layered, place-has_cell}
use Rattle.sz_cells.proofs.Sets.{row-held}
use Rattle.sz_frame.proofs.Places.{own-place, place-from}
use Rattle.sz_spec.specs.declared.op.Fold.{Fold}
use Rattle.sz_spec.specs.declared.op.Op.{Op}
use Rattle.sz_spec.specs.declared.op.Op.TheVariants.{Transpose, Slice, Block, FoldLayers}
use Rattle.sz_spec.specs.Lineage.{mapped_between, same_layer}
use Rattle.sz_spec.specs.Operators.Folds.{blocks_over}

-- a cell of a shape to which an output cell is mapped
pub record IsMapped (e out : Extent) (op : Op) (i : ℕ) (o : Cell) : Type 0 where
  pub cell : Cell
  pub held : holds e cell ≡ true
  pub passes : mapped_between e out op i o cell ≡ true

-- a number times a side, where the number is one of a block's, is below what the blocks are laid over
block-below : (n side b : ℕ) → 0 < side → b < blocks_over n side → b * side + 0 < n
block-below n side b some low =
    let next : b + 1 ≤ (n + (side - 1)) / side = omega (arith, low) in
    let most : (b + 1) * side ≤ (n + (side - 1)) / side * side = mul-le-mul_right side next in
    let whole = div-add-mod' (n + (side - 1)) side in
    grind (arith, most, whole, some)

pub block-mapped : (e out : Extent) (fold : Fold) (h w i : ℕ) (o : Cell) → (i == 0) ≡ true → 0 < h → 0 < w
    → is_extent e ≡ true → is_extent out ≡ true
    → layered e.layers (blocks_over (height_of e) h) (blocks_over e.cols w) ≡ out → holds out o ≡ true
    → IsMapped e out (Block fold h w) i o
block-mapped e out fold h w i o first tall wide right right' made held =
    let own = own-place out o right' held in
    let height : height_of out ≡ blocks_over (height_of e) h =
    sym (ap height_of made) ∙ height-layered e.layers (blocks_over (height_of e) h) (blocks_over e.cols w) (sides e
    right).0 in
    let cols : out.cols ≡ blocks_over e.cols w = sym (ap (λ (d : Extent). d.cols) made) in
    let layers : out.layers ≡ e.layers = sym (ap (λ (d : Extent). d.layers) made) in
    let l : ℕ = layer_of out o in
    let r : ℕ = row_in out o * h + 0 in
    let c : ℕ = o.col * w + 0 in
    let low : r < height_of e =
    block-below (height_of e) h (row_in out o) tall (subst (λ (n : ℕ). row_in out o < n) height own.1) in
    let left : c < e.cols = block-below e.cols w o.col wide (subst (λ (n : ℕ). o.col < n) cols own.2) in
    let layer : l < e.layers = subst (λ (n : ℕ). l < n) layers own.0 in
    let there = place-has_cell e l r c right (place-from e l r c layer low left) in
    let x : Cell = cell_in e l r c in
    let same : same_layer out e o x ≡ true = eq-eqb (layer_of e x) (layer_of out o) there.1 in
    let row : (row_in e x / h == row_in out o) ≡ true =
    eq-eqb (row_in e x / h) (row_in out o)
    (ap (λ (n : ℕ). n / h) there.2 ∙ div-mul-add (row_in out o) h 0 tall) in
    let col : (x.col / w == o.col) ≡ true =
    eq-eqb (x.col / w) o.col (ap (λ (n : ℕ). n / w) there.3 ∙ div-mul-add o.col w 0 wide) in
    record {
      cell = x;
      held = there.0;
      passes = and_from (((i == 0) && same_layer out e o x) && (row_in e x / h == row_in out o)) (x.col / w == o.col)
          (and_from ((i == 0) && same_layer out e o x) (row_in e x / h == row_in out o)
          (and_from (i == 0) (same_layer out e o x) first same) row) col;
    }

pub layers-mapped : (e out : Extent) (fold : Fold) (i : ℕ) (o : Cell) → (i == 0) ≡ true → is_extent e ≡ true
    → flat (height_of e) e.cols ≡ out → holds out o ≡ true → IsMapped e out (FoldLayers fold) i o
layers-mapped e out fold i o first right made held =
    let own = row-held out o held in
    let low : o.row < height_of e = subst (λ (d : Extent). o.row < d.rows) (sym made) own.0 in
    let left : o.col < e.cols = subst (λ (d : Extent). o.col < d.cols) (sym made) own.1 in
    let there = place-has_cell e 0 o.row o.col right (place-from e 0 o.row o.col (sides e right).0 low left) in
    let x : Cell = cell_in e 0 o.row o.col in
    let row : (row_in e x == o.row) ≡ true = eq-eqb (row_in e x) o.row there.2 in
    let col : (x.col == o.col) ≡ true = eq-eqb x.col o.col there.3 in
    record {
      cell = x;
      held = there.0;
      passes = and_from ((i == 0) && (row_in e x == o.row)) (x.col == o.col)
          (and_from (i == 0) (row_in e x == o.row) first row) col;
    }

pub turned-mapped : (e out : Extent) (i : ℕ) (o : Cell) → (i == 0) ≡ true → is_extent e ≡ true
    → is_extent out ≡ true → layered e.layers e.cols (height_of e) ≡ out → holds out o ≡ true
    → IsMapped e out Transpose i o
turned-mapped e out i o first right right' made held =
    let own = own-place out o right' held in
    let height : height_of out ≡ e.cols =
    sym (ap height_of made) ∙ height-layered e.layers e.cols (height_of e) (sides e right).0 in
    let cols : out.cols ≡ height_of e = sym (ap (λ (d : Extent). d.cols) made) in
    let layers : out.layers ≡ e.layers = sym (ap (λ (d : Extent). d.layers) made) in
    let l : ℕ = layer_of out o in
    let r : ℕ = row_in out o in
    let low : o.col < height_of e = subst (λ (n : ℕ). o.col < n) cols own.2 in
    let left : r < e.cols = subst (λ (n : ℕ). r < n) height own.1 in
    let layer : l < e.layers = subst (λ (n : ℕ). l < n) layers own.0 in
    let there = place-has_cell e l o.col r right (place-from e l o.col r layer low left) in
    let x : Cell = cell_in e l o.col r in
    let same : same_layer out e o x ≡ true = eq-eqb (layer_of e x) (layer_of out o) there.1 in
    let row : (row_in e x == o.col) ≡ true = eq-eqb (row_in e x) o.col there.2 in
    let col : (x.col == row_in out o) ≡ true = eq-eqb x.col (row_in out o) there.3 in
    record {
      cell = x;
      held = there.0;
      passes = and_from (((i == 0) && same_layer out e o x) && (row_in e x == o.col)) (x.col == row_in out o)
          (and_from ((i == 0) && same_layer out e o x) (row_in e x == o.col)
          (and_from (i == 0) (same_layer out e o x) first same) row) col;
    }

pub slice-mapped : (e out : Extent) (r0 c0 h w i : ℕ) (o : Cell) → (i == 0) ≡ true → is_extent e ≡ true
    → is_extent out ≡ true → r0 + h ≤ height_of e → c0 + w ≤ e.cols → layered e.layers h w ≡ out
    → holds out o ≡ true → IsMapped e out (Slice r0 c0 h w) i o
slice-mapped e out r0 c0 h w i o first right right' below beside made held =
    let own = own-place out o right' held in
    let height : height_of out ≡ h = sym (ap height_of made) ∙ height-layered e.layers h w (sides e right).0 in
    let cols : out.cols ≡ w = sym (ap (λ (d : Extent). d.cols) made) in
    let layers : out.layers ≡ e.layers = sym (ap (λ (d : Extent). d.layers) made) in
    let l : ℕ = layer_of out o in
    let r : ℕ = r0 + row_in out o in
    let c : ℕ = c0 + o.col in
    let low : r < height_of e = omega (arith, own.1, height, below) in
    let left : c < e.cols = omega (arith, own.2, cols, beside) in
    let layer : l < e.layers = subst (λ (n : ℕ). l < n) layers own.0 in
    let there = place-has_cell e l r c right (place-from e l r c layer low left) in
    let x : Cell = cell_in e l r c in
    let same : same_layer out e o x ≡ true = eq-eqb (layer_of e x) (layer_of out o) there.1 in
    let row : (row_in e x == r0 + row_in out o) ≡ true = eq-eqb (row_in e x) (r0 + row_in out o) there.2 in
    let col : (x.col == c0 + o.col) ≡ true = eq-eqb x.col (c0 + o.col) there.3 in
    record {
      cell = x;
      held = there.0;
      passes = and_from (((i == 0) && same_layer out e o x) && (row_in e x == r0 + row_in out o))
          (x.col == c0 + o.col)
          (and_from ((i == 0) && same_layer out e o x) (row_in e x == r0 + row_in out o)
          (and_from (i == 0) (same_layer out e o x) first same) row) col;
    }

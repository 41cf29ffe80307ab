-- What follows of the sides of shapes.
--
-- The key idea: the rows are the layers times the height, so dividing them by the one gives the other, and the layer
-- and the row in it of a cell are the quotient and the remainder of its row by the height.
use Rattle.std.proofs.Common.{◌≡◌, ℕ, ◌+◌, ◌*◌, ◌/◌, ◌%◌, ◌<◌, ◌≤◌, true}
use Rattle.std.proofs.Common.{◌&&◌, ◌==◌, nat_lt, nat_le, refl, sym, ap, ◌∙◌, arith, mul_comm}
use Rattle.std.proofs.Common.{add-zero, eqb-true, eq-eqb, ltb-true, lt-ltb, leb-true, le-leb}
use Rattle.std.proofs.lemmas.Bool.{and_parts, and_from}
use Rattle.std.proofs.lemmas.Nat.{div-mul-add, mod-mul-add, mul-add-lt, div-add-mod', div_below, mod_below}
use Rattle.sz_cells.specs.declared.Cell.{Cell}
use Rattle.sz_cells.specs.Extent.{Extent, height_of, size_of, is_shape, is_layered, is_extent, layered}
use Rattle.sz_cells.specs.Laws.{CellsHavePlaces, PlacesHaveCells}

-- the sides of a shape that is within the limits
pub sides-within : (layers height cols : ℕ) → is_layered layers height cols ≡ true
    → (0 < layers) × (layers ≤ 16) × (0 < layers * height) × (0 < cols) × (layers * height * cols ≤ 1048576)
sides-within layers height cols h =
    let a = and_parts (nat_lt 0 layers && nat_le layers 16) (is_shape (layers * height) cols) h in
    let b = and_parts (nat_lt 0 layers) (nat_le layers 16) a.0 in
    let c = and_parts (nat_lt 0 (layers * height) && nat_lt 0 cols) (nat_le (layers * height * cols) 1048576) a.1 in
    let d = and_parts (nat_lt 0 (layers * height)) (nat_lt 0 cols) c.0 in (
      ltb-true 0 layers b.0,
      leb-true layers 16 b.1,
      ltb-true 0 (layers * height) d.0,
      ltb-true 0 cols d.1,
      leb-true (layers * height * cols) 1048576 c.1,
    )

-- sides within the limits
pub within-sides : (layers height cols : ℕ) → 0 < layers → layers ≤ 16 → 0 < layers * height → 0 < cols
    → layers * height * cols ≤ 1048576 → is_layered layers height cols ≡ true
within-sides layers height cols some few rows wide small =
    and_from _ _ (and_from _ _ (lt-ltb 0 layers some) (le-leb layers 16 few))
    (and_from _ _ (and_from _ _ (lt-ltb 0 (layers * height) rows) (lt-ltb 0 cols wide))
    (le-leb (layers * height * cols) 1048576 small))

-- the height of layers of equal height
pub height-layered : (layers height cols : ℕ) → 0 < layers → height_of (layered layers height cols) ≡ height
height-layered layers height cols some =
    ap (λ (n : ℕ). n / layers) (mul_comm layers height ∙ sym (add-zero (height * layers)))
    ∙ div-mul-add height layers 0 some

-- layers within the limits make a shape
pub layered-is_extent : (layers height cols : ℕ) → is_layered layers height cols ≡ true
    → is_extent (layered layers height cols) ≡ true
layered-is_extent layers height cols h =
    let some = (sides-within layers height cols h).0 in
    rw (height-layered layers height cols some) (and_from _ _ h (eq-eqb (layers * height) (layers * height) refl))

-- the sides of a shape: it is as many layers as it says, each of its height
pub whole-layers : (e : Extent) → is_extent e ≡ true → (is_layered e.layers (height_of e) e.cols ≡ true)
    × (e.rows ≡ e.layers * height_of e)
whole-layers e h =
    let both = and_parts (is_layered e.layers (height_of e) e.cols) (e.rows == e.layers * height_of e) h in
    (both.0, eqb-true e.rows (e.layers * height_of e) both.1)

-- no side of a shape is 0, its layers make up its rows, and it has at most 1,048,576 cells
pub sides : (e : Extent) → is_extent e ≡ true
    → (0 < e.layers) × (0 < height_of e) × (0 < e.rows) × (0 < e.cols) × (e.layers * height_of e ≡ e.rows)
    × (size_of e ≤ 1048576)
sides e h =
    let whole = whole-layers e h in
    let s = sides-within e.layers (height_of e) e.cols whole.0 in
    let rows : 0 < e.rows = omega (arith, s.2, whole.1) in
    (s.0, grind (arith, s.2), rows, s.3, sym whole.1, rw whole.1 s.4)

-- a cell of a shape has a layer and a row in it, and is the cell of these
pub cell-has_place : CellsHavePlaces
cell-has_place e c h held =
    let s = sides e h in
    let inside = and_parts (nat_lt c.row e.rows) (nat_lt c.col e.cols) held in
    let row : c.row < e.layers * height_of e = omega (arith, ltb-true c.row e.rows inside.0, s.4) in
    let layer = div_below c.row (height_of e) e.layers s.1 row in
    let low = mod_below c.row (height_of e) s.1 in
    let make : ℕ → Cell = λ n. record { row = n; col = c.col } in (
      and_from _ _ (and_from _ _ (lt-ltb (c.row / height_of e) e.layers layer) (lt-ltb (c.row % height_of e)
          (height_of e) low)) inside.1,
      ap make (div-add-mod' c.row (height_of e)),
    )

-- the cell of a place of a shape is one of the shape, and its layer, row in it and column are the place
pub place-has_cell : PlacesHaveCells
place-has_cell e layer row col h place =
    let s = sides e h in
    let outer = and_parts (nat_lt layer e.layers && nat_lt row (height_of e)) (nat_lt col e.cols) place in
    let inner = and_parts (nat_lt layer e.layers) (nat_lt row (height_of e)) outer.0 in
    let low : row < height_of e = ltb-true row (height_of e) inner.1 in
    let below = mul-add-lt layer (height_of e) row e.layers (ltb-true layer e.layers inner.0) low in
    let inside : layer * height_of e + row < e.rows = omega (arith, below, s.4, mul_comm e.layers (height_of e)) in (
      and_from _ _ (lt-ltb (layer * height_of e + row) e.rows inside) outer.1,
      div-mul-add layer (height_of e) row low,
      mod-mul-add layer (height_of e) row low,
      refl,
    )

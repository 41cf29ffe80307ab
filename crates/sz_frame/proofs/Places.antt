-- The cell at a place of a shape, and how large places and sides are.
--
-- The key idea: a cell of a shape is its layer, its row in it and its column, and nothing else. So a test of these
-- three is passed by one cell, where the shape has the place, and by none where it has not.
use Rattle.std.proofs.Common.{◌≡◌, ℕ, ◌*◌, ◌<◌, ◌≤◌, arith, ltb-true, lt-ltb, true, false, true≢false}
use Rattle.std.proofs.Common.{Bool, ◌&&◌, ◌==◌, Option, Some, None}
use Rattle.std.proofs.Common.{sym, ap, subst, ◌∙◌, inl, inr, eqb-true, eq-eqb}
use Rattle.std.specs.Prelude.{if◌then◌else◌, IfSome}
use Rattle.std.proofs.lemmas.Bool.{cases_Bool, and_parts, and_from}
use Rattle.std.proofs.Math.Nat.{le-mul_of_pos_right}
use Rattle.sz_cells.specs.declared.Cell.{Cell}
use Rattle.sz_cells.specs.Extent.{Extent, is_extent, holds, layer_of, row_in}
use Rattle.sz_cells.specs.Extent.{is_place, cell_in, height_of, size_of}
use Rattle.sz_cells.specs.Cells.{is_same}
use Rattle.sz_cells.proofs.Shapes.{cell-has_place, place-has_cell, sides}
use Rattle.sz_cells.proofs.Sets.{same_truth, is_same-true, is_same-from}
use Rattle.sz_frame.specs.Single.{IsOnly}

-- the cell is of this layer, this row in it and this column
abbrev pub is_at : Extent → ℕ → ℕ → ℕ → Cell → Bool
is_at e layer row col x = ((layer_of e x == layer) && (row_in e x == row)) && (x.col == col)

-- exactly the cell of a place is there
one-at : (e : Extent) (layer row col : ℕ) → is_extent e ≡ true → is_place e layer row col ≡ true
    → IsOnly e (is_at e layer row col) (Some (cell_in e layer row col))
one-at e layer row col right place x held =
    same_truth (is_at e layer row col x) (is_same (cell_in e layer row col) x)
    (λ t.
    let both = and_parts _ _ t in
    let first = and_parts _ _ both.0 in
    let own = (cell-has_place e x right held).1 in
    is_same-from (cell_in e layer row col) x
    (ap (λ (n : ℕ). cell_in e n row col) (sym (eqb-true _ _ first.0))
    ∙ ap (λ (n : ℕ). cell_in e (layer_of e x) n col) (sym (eqb-true _ _ first.1))
    ∙ ap (λ (n : ℕ). cell_in e (layer_of e x) (row_in e x) n) (sym (eqb-true _ _ both.1)) ∙ own))
    (λ t.
    let same = is_same-true (cell_in e layer row col) x t in
    let there = place-has_cell e layer row col right place in
    subst (λ (y : Cell). is_at e layer row col y ≡ true) same
    (and_from _ _ (and_from _ _ (eq-eqb _ _ there.1) (eq-eqb _ _ there.2)) (eq-eqb _ _ there.3)))

-- and where the shape has no such place, none is
none-at : (e : Extent) (layer row col : ℕ) → is_extent e ≡ true → is_place e layer row col ≡ false
    → IsOnly e (is_at e layer row col) None
none-at e layer row col right place x held =
    elim (cases_Bool (is_at e layer row col x)) [
      | inr f ↦ f
      | inl t ↦
          let both = and_parts _ _ t in
          let first = and_parts _ _ both.0 in
          let own = (cell-has_place e x right held).0 in
          let moved : is_place e layer row col ≡ true =
          subst (λ (n : ℕ). is_place e layer row n ≡ true) (eqb-true _ _ both.1)
          (subst (λ (n : ℕ). is_place e layer n x.col ≡ true) (eqb-true _ _ first.1)
          (subst (λ (n : ℕ). is_place e n (row_in e x) x.col ≡ true) (eqb-true _ _ first.0) own)) in
          absurd (true≢false (sym moved ∙ place))
    ]

-- so what is found at a place is exactly what is there
pub found : (e : Extent) (layer row col : ℕ) (cell : Option Cell) → is_extent e ≡ true
    → cell ≡ (if is_place e layer row col then Some (cell_in e layer row col) else None)
    → IsOnly e (is_at e layer row col) cell
found e layer row col cell right told =
    elim (cases_Bool (is_place e layer row col)) [
      | inl t ↦ subst (IsOnly e (is_at e layer row col)) (sym (rw t at told)) (one-at e layer row col right t)
      | inr f ↦ subst (IsOnly e (is_at e layer row col)) (sym (rw f at told)) (none-at e layer row col right f)
    ]

-- and it is of the shape
pub found-held : (e : Extent) (layer row col : ℕ) (cell : Option Cell) → is_extent e ≡ true
    → cell ≡ (if is_place e layer row col then Some (cell_in e layer row col) else None)
    → IfSome cell (λ x. holds e x ≡ true)
found-held e layer row col cell right told =
    elim (cases_Bool (is_place e layer row col)) [
      | inl t ↦ subst (λ (o : Option Cell). IfSome o (λ x. holds e x ≡ true)) (sym (rw t at told))
          (place-has_cell e layer row col right t).0
      | inr f ↦ subst (λ (o : Option Cell). IfSome o (λ x. holds e x ≡ true)) (sym (rw f at told)) tt
    ]

-- at a place of the shape a cell is found
pub not-found : (e : Extent) (layer row col : ℕ) (cell : Option Cell) → is_place e layer row col ≡ true
    → cell ≡ (if is_place e layer row col then Some (cell_in e layer row col) else None) → cell ≡ None → ⊥
not-found e layer row col cell place told none = let never = sym (rw place at told) ∙ none in (cc)

-- tests that agree are passed by the same cell
pub only-by : (e : Extent) (p q : Cell → Bool) (cell : Option Cell)
    → ((x : Cell) → holds e x ≡ true → q x ≡ p x)
    → IsOnly e p cell → IsOnly e q cell
only-by e p q cell same only x held = same x held ∙ only x held

-- what a place is made of
place-parts : (e : Extent) (layer row col : ℕ) → is_place e layer row col ≡ true
    → (layer < e.layers) × (row < height_of e) × (col < e.cols)
place-parts e layer row col place =
    let both = and_parts _ _ place in
    let first = and_parts _ _ both.0 in
    (ltb-true _ _ first.0, ltb-true _ _ first.1, ltb-true _ _ both.1)

pub place-from : (e : Extent) (layer row col : ℕ) → layer < e.layers → row < height_of e → col < e.cols
    → is_place e layer row col ≡ true
place-from e layer row col a b c = and_from _ _ (and_from _ _ (lt-ltb _ _ a) (lt-ltb _ _ b)) (lt-ltb _ _ c)

-- the place of a cell of a shape
pub own-place : (e : Extent) (x : Cell) → is_extent e ≡ true → holds e x ≡ true
    → (layer_of e x < e.layers) × (row_in e x < height_of e) × (x.col < e.cols)
own-place e x right held = place-parts e (layer_of e x) (row_in e x) x.col (cell-has_place e x right held).0

-- how large a shape's sides are
pub record AreSmall (e : Extent) : Type 0 where
  pub height : height_of e ≤ 1048576
  pub some : 0 < height_of e
  pub rows : e.rows ≤ 1048576
  pub cols : e.cols ≤ 1048576
  pub whole : e.layers * height_of e ≡ e.rows
  pub size : size_of e ≤ 1048576

pub are-small : (e : Extent) → is_extent e ≡ true → AreSmall e
are-small e right =
    let s = sides e right in
    let few = le-mul_of_pos_right (height_of e) s.0 in
    let more = le-mul_of_pos_right e.rows s.3 in
    let wide = le-mul_of_pos_right e.cols s.2 in
    record {
      height = omega (arith, few, more, s.4, s.5);
      some = s.1;
      rows = omega (arith, more, s.5);
      cols = omega (arith, wide, s.5);
      whole = s.4;
      size = s.5;
    }

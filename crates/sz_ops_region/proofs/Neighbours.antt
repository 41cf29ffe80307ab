-- A neighbour of a cell is on one of its sides, and what is on a side in its layer is a neighbour.
--
-- The key idea: the rows of a layer are those of which the quotient by the height is the layer.
use Rattle.std.proofs.Common.{Bool, ◌≡◌, ℕ, ◌+◌, ◌*◌, ◌/◌, ◌<◌, ◌≤◌, ◌==◌, true, ◌&&◌, ◌||◌, sym, ap, ◌∙◌, refl, ◌-◌}
use Rattle.std.proofs.Common.{nat_lt, nat_le, arith, inl, inr}
use Rattle.std.proofs.Math.Nat.{div-mul-le_self, lt-div-mul-add}
use Rattle.std.proofs.lemmas.Bool.{and_parts, and_from, or_cases, or_left, or_right, eq-eqb, ne_eqb}
use Rattle.std.proofs.lemmas.Bool.{le-ltb}
use Rattle.std.proofs.Common.{lt-ltb}
use Rattle.std.proofs.lemmas.Bool.Decides.{leb_tells}
use Rattle.std.proofs.lemmas.Nat.{div-mul-add}
use Rattle.sz_cells.specs.declared.Cell.{Cell}
use Rattle.sz_cells.specs.Extent.{Extent, layer_of}
use Rattle.sz_spec.specs.Operators.Regions.{are_neighbours}
use Rattle.sz_ops_region.specs.declared.sides.Side.{Side}
use Rattle.sz_ops_region.specs.declared.sides.Side.TheVariants.{Above, Below, Left, Right}
use Rattle.sz_ops_region.specs.Sides.{is_on}

-- a neighbour is on some side
pub some-side : {P : Type 0} (e : Extent) (a b : Cell) → are_neighbours e a b ≡ true
    → ((side : Side) → is_on side a b ≡ true → P) → P
some-side e a b near each =
    let beside = (a.col + 1 == b.col) || (b.col + 1 == a.col) in
    let above = (a.row + 1 == b.row) || (b.row + 1 == a.row) in
    let parts = and_parts (layer_of e a == layer_of e b) (((a.row == b.row) && beside) || ((a.col == b.col) && above))
    near in
    elim (or_cases ((a.row == b.row) && beside) ((a.col == b.col) && above) parts.1) [
      | inl across ↦
          let both = and_parts (a.row == b.row) beside across in
          elim (or_cases (a.col + 1 == b.col) (b.col + 1 == a.col) both.1) [
            | inl right ↦ each Right (and_from _ _ both.0 right)
            | inr left ↦ each Left (and_from _ _ both.0 left)
          ]
      | inr along ↦
          let both = and_parts (a.col == b.col) above along in
          elim (or_cases (a.row + 1 == b.row) (b.row + 1 == a.row) both.1) [
            | inl below ↦ each Below (and_from _ _ both.0 below)
            | inr over ↦ each Above (and_from _ _ both.0 over)
          ]
    ]

-- beside each other in one row, and in one column
abbrev across : Cell → Cell → Bool
across a b = (a.row == b.row) && ((a.col + 1 == b.col) || (b.col + 1 == a.col))

abbrev along : Cell → Cell → Bool
along a b = (a.col == b.col) && ((a.row + 1 == b.row) || (b.row + 1 == a.row))

and-wider : (s x y : Bool) → (s && x) ≡ true → (x ≡ true → y ≡ true) → (s && y) ≡ true
and-wider s x y on wider = let both = and_parts s x on in and_from s y both.0 (wider both.1)

-- cells of one column and rows that follow, and cells of one row and columns that follow, are neighbours
col-near : (e : Extent) (a b : Cell) (x : Bool) → ((a.col == b.col) && x) ≡ true
    → (x ≡ true → ((a.row + 1 == b.row) || (b.row + 1 == a.row)) ≡ true)
    → (layer_of e a == layer_of e b) ≡ true → are_neighbours e a b ≡ true
col-near e a b x on rows layer =
    and_from _ _ layer (or_right (across a b) (along a b) (and-wider (a.col == b.col) x _ on rows))

row-near : (e : Extent) (a b : Cell) (x : Bool) → ((a.row == b.row) && x) ≡ true
    → (x ≡ true → ((a.col + 1 == b.col) || (b.col + 1 == a.col)) ≡ true)
    → (layer_of e a == layer_of e b) ≡ true → are_neighbours e a b ≡ true
row-near e a b x on cols layer =
    and_from _ _ layer (or_left (across a b) (along a b) (and-wider (a.row == b.row) x _ on cols))

-- what is on a side, in the cell's layer, is a neighbour
pub side-near : (e : Extent) (side : Side) (a b : Cell) → is_on side a b ≡ true
    → (layer_of e a == layer_of e b) ≡ true → are_neighbours e a b ≡ true
side-near e Above a b on = col-near e a b (b.row + 1 == a.row) on (or_right (a.row + 1 == b.row) (b.row + 1 == a.row))
side-near e Below a b on = col-near e a b (a.row + 1 == b.row) on (or_left (a.row + 1 == b.row) (b.row + 1 == a.row))
side-near e Left a b on = row-near e a b (b.col + 1 == a.col) on (or_right (a.col + 1 == b.col) (b.col + 1 == a.col))
side-near e Right a b on = row-near e a b (a.col + 1 == b.col) on (or_left (a.col + 1 == b.col) (b.col + 1 == a.col))

-- and a neighbour is of the cell's layer
pub near-layer : (e : Extent) (a b : Cell) → are_neighbours e a b ≡ true
    → (layer_of e a == layer_of e b) ≡ true
near-layer e a b near =
    (and_parts (layer_of e a == layer_of e b) (across a b || along a b) near).0

-- ---- the rows of a layer

-- the quotient by the height of a row of a layer is the layer
pub band-layer : (h layer row : ℕ) → layer * h ≤ row → row < layer * h + h → row / h ≡ layer
band-layer h layer row from inside =
    let rest : layer * h + (row - layer * h) ≡ row = omega arith in
    ap (λ (n : ℕ). n / h) (sym rest) ∙ div-mul-add layer h (row - layer * h) (omega arith)

-- a row is one of a layer exactly where its quotient by the height is the layer
pub band-has : (h layer row top end : ℕ) → 0 < h → top ≡ layer * h → end ≡ layer * h + h
    → (nat_le top row && nat_lt row end) ≡ (layer == row / h)
band-has h layer row top end some is_top is_end =
    let low = div-mul-le_self row h in
    let high = lt-div-mul-add {a = row} {b = h} some in
    elim (leb_tells top row) [
      | inr before ↦
          let apart : layer ≡ row / h → ⊥ =
          λ same. omega (arith, before.1, is_top, low, ap (λ (n : ℕ). n * h) same) in
          rw (before.0, ne_eqb layer (row / h) apart) refl
      | inl from ↦
          elim (leb_tells end row) [
            | inl past ↦
                let apart : layer ≡ row / h → ⊥ =
                λ same. omega (arith, past.1, is_end, high, ap (λ (n : ℕ). n * h) same) in
                rw (from.0, le-ltb row end past.1, ne_eqb layer (row / h) apart) refl
            | inr inside ↦
                let same : row / h ≡ layer = band-layer h layer row (omega (arith, from.1, is_top))
                (omega (arith, inside.1, is_end)) in
                rw (from.0, lt-ltb row end inside.1, eq-eqb layer (row / h) (sym same)) refl
          ]
    ]

-- The cells of all layers at one row and column, layer by layer.
--
-- The key idea: the rows of a layer are all below those of the next one, so the cells of the layers so far are those
-- whose row is below the first row of the next layer, and each further layer has one cell more.
use Rattle.std.proofs.Common.{◌≡◌, ℕ, ◌+◌, ◌*◌, ◌%◌, ◌<◌, ◌≤◌, Bool, true, false, true≢false, ◌&&◌, ◌||◌, ◌==◌}
use Rattle.std.proofs.Common.{nat_lt, List, [], ◌∷◌, ◌++◌, refl, sym, ap}
use Rattle.std.proofs.Common.{ap₂, subst, ◌∙◌, arith, inl, inr, ltb-true, lt-ltb}
use Rattle.std.proofs.Common.{eqb-true, eq-eqb, ◌-◌}
use Rattle.std.specs.List.{list_any}
use Rattle.std.proofs.Math.Bool.{and-false, or_assoc, or-false}
use Rattle.std.proofs.Math.Nat.{mul-le-mul_right}
use Rattle.std.proofs.lemmas.Bool.{cases_Bool, cases_lt, and_parts, and_from}
use Rattle.std.proofs.lemmas.Bool.Decides.{nat_tests}
use Rattle.std.proofs.lemmas.List.Folds.{list_any-append}
use Rattle.std.proofs.lemmas.Nat.{mod-mul-add}
use Rattle.sz_cells.specs.declared.Cell.{Cell}
use Rattle.sz_cells.specs.Extent.{Extent, height_of, is_extent, holds, row_in, cell_in}
use Rattle.sz_cells.specs.Cells.{Cells, is_same, any_cell, has, cells_where, with_those}
use Rattle.sz_cells.proofs.Shapes.{sides}
use Rattle.sz_cells.proofs.Sets.{row-held, cell-index, cells_where-ext}
use Rattle.sz_cells.proofs.Sets.{any_cell-ext, same_truth, is_same-flip, is_same-true}
use Rattle.sz_cells.proofs.Windows.{single-cell}
use Rattle.sz_spec.specs.declared.op.Fold.{Fold}
use Rattle.sz_spec.specs.declared.op.Op.TheVariants.{FoldLayers}
use Rattle.sz_spec.specs.Values.{Grid, input_at, numbers_at, value_at}
use Rattle.sz_spec.specs.Lineage.{mapped}
use Rattle.sz_spec.specs.Operators.Folds.{fold_of}
use Rattle.sz_spec.specs.Evaluation.{value_of}
use Rattle.sz_spec.proofs.PayloadLineage.{extent-of_input}
use Rattle.sz_frame.specs.Folding.{numbers_in}
use Rattle.sz_frame.proofs.Added.{with-none, with-more, with-ext}
use Rattle.sz_frame.proofs.FoldedCells.{numbers-join, numbers-none}
use Rattle.sz_frame.proofs.Passing.{met-none, met-or}
use Rattle.sz_ops_move.specs.Moving.{is_in_line}

-- the cell is of one of the first n layers, and at the row and the column
abbrev pub is_before : Extent → Cell → ℕ → Cell → Bool
is_before e place n x = nat_lt x.row (n * height_of e) && is_in_line e place x

-- the cell of layer n
abbrev pub above : Extent → Cell → ℕ → Cell
above e place n = cell_in e n place.row place.col

-- no layer has no cell
pub no-layers : (e : Extent) (place x : Cell) → is_before e place 0 x ≡ false
no-layers e place x =
    let none : 0 * height_of e ≡ 0 = grind arith in
    let f : nat_lt x.row (0 * height_of e) ≡ false = grind (arith, nat_tests, none) in
    rw f refl

-- below a layer's first row, its cell adds nothing
pub below-layer : (e : Extent) (place : Cell) (n : ℕ) (x : Cell) → x.row < n * height_of e
    → (is_before e place (n + 1) x ≡ is_before e place n x) × (is_same (above e place n) x ≡ false)
below-layer e place n x low =
    let more : (n + 1) * height_of e ≡ n * height_of e + height_of e = grind arith in
    let a : nat_lt x.row ((n + 1) * height_of e) ≡ true = grind (arith, nat_tests, more, low) in
    let b : nat_lt x.row (n * height_of e) ≡ true = grind (arith, nat_tests, low) in
    let f : (n * height_of e + place.row == x.row) ≡ false = grind (arith, nat_tests, low) in
    (rw (a, b) refl, rw f refl)

-- a row of a layer is the layer's first row and its row in it
in-layer : (k h n : ℕ) → n * h ≤ k → k < n * h + h → k ≡ n * h + k % h
in-layer k h n low high =
    let r : ℕ = k - n * h in
    let at : n * h + r ≡ k = omega arith in
    let inside : r < h = omega arith in
    let rest : k % h ≡ r = ap (λ (m : ℕ). m % h) (sym at) ∙ mod-mul-add n h r inside in
    omega (arith, at, rest)

-- and from it on, the layers so far have no cell, and the layers with it have its cell alone
pub from-layer : (e : Extent) (place : Cell) (n : ℕ) (x : Cell) → place.row < height_of e → n * height_of e ≤ x.row
    → (is_before e place (n + 1) x ≡ is_same (above e place n) x) × (is_before e place n x ≡ false)
from-layer e place n x row high =
    let h = height_of e in
    let b : nat_lt x.row (n * h) ≡ false = grind (arith, nat_tests, high) in (
      same_truth (is_before e place (n + 1) x) (is_same (above e place n) x)
          (λ t.
          let both = and_parts (nat_lt x.row ((n + 1) * h)) (is_in_line e place x) t in
          let low : x.row < (n + 1) * h = ltb-true _ _ both.0 in
          let line = and_parts (row_in e x == place.row) (x.col == place.col) both.1 in
          let at : x.row % h ≡ place.row = eqb-true _ _ line.0 in
          let more : (n + 1) * h ≡ n * h + h = grind arith in
          let rest : x.row ≡ n * h + x.row % h = in-layer x.row h n high (omega (arith, low, more)) in
          and_from (n * h + place.row == x.row) (place.col == x.col) (eq-eqb _ _ (omega (arith, rest, at)))
          (eq-eqb _ _ (sym (eqb-true x.col place.col line.1))))
          (λ t.
          let same = is_same-true (above e place n) x t in
          let r : n * h + place.row ≡ x.row = ap (λ (c : Cell). c.row) same in
          let k : place.col ≡ x.col = ap (λ (c : Cell). c.col) same in
          let more : (n + 1) * h ≡ n * h + h = grind arith in
          let at : x.row % h ≡ place.row = ap (λ (m : ℕ). m % h) (sym r) ∙ mod-mul-add n h place.row row in
          and_from (nat_lt x.row ((n + 1) * h)) (is_in_line e place x) (lt-ltb _ _ (omega (arith, r, more, row)))
          (and_from (row_in e x == place.row) (x.col == place.col) (eq-eqb _ _ at) (eq-eqb _ _ (sym k)))),
      rw b refl,
    )

-- one layer more is one cell more
pub layer-next : (e : Extent) (place : Cell) (n : ℕ) (x : Cell) → place.row < height_of e
    → (is_before e place n x || is_same (above e place n) x) ≡ is_before e place (n + 1) x
layer-next e place n x row =
    elim (cases_lt x.row (n * height_of e)) [
      | inl low ↦
          let b = below-layer e place n x low in
          rw b.1 (or-false (is_before e place n x) ∙ sym b.0)
      | inr high ↦
          let f = from-layer e place n x row high in
          rw f.1 (sym f.0)
    ]

-- all layers have all cells of the shape
pub layers-all : (e : Extent) (place : Cell) (n : ℕ) (x : Cell) → is_extent e ≡ true → n ≡ e.layers
    → holds e x ≡ true → is_before e place n x ≡ is_in_line e place x
layers-all e place n x right last held =
    let s = sides e right in
    let all : n * height_of e ≡ e.rows = ap (λ (m : ℕ). m * height_of e) last ∙ s.4 in
    let t : nat_lt x.row (n * height_of e) ≡ true = lt-ltb _ _ (omega (arith, (row-held e x held).0, all)) in
    rw t refl

-- ---- numbers

pub line-first : (g : Grid) (place : Cell) → numbers_at g (cells_where g.extent (is_before g.extent place 0)) ≡ []
line-first g place = numbers-none g (is_before g.extent place 0) (no-layers g.extent place)

-- the number of one cell
one-number : (g : Grid) (c : Cell) → holds g.extent c ≡ true
    → numbers_at g (cells_where g.extent (is_same c)) ≡ numbers_in (value_at g c ∷ [])
one-number g c held =
    ap (numbers_at g) (single-cell g.extent c held)
    ∙ ap (λ (x : Cell). numbers_in (value_at g x ∷ [])) (cell-index g.extent c held)

pub line-next : (g : Grid) (place : Cell) (n : ℕ) → is_extent g.extent ≡ true → n < g.extent.layers
    → place.row < height_of g.extent → holds g.extent (above g.extent place n) ≡ true
    → numbers_at g (cells_where g.extent (is_before g.extent place n))
    ++ numbers_in (value_at g (above g.extent place n) ∷ [])
    ≡ numbers_at g (cells_where g.extent (is_before g.extent place (n + 1)))
line-next g place n right few row held =
    let e = g.extent in
    let s = sides e right in
    let most : n * height_of e ≤ e.layers * height_of e = mul-le-mul_right (height_of e) (omega (arith, few)) in
    ap (λ zs. numbers_at g (cells_where e (is_before e place n)) ++ zs) (sym (one-number g (above e place n) held))
    ∙ sym (numbers-join g (is_before e place n) (is_same (above e place n)) (is_before e place (n + 1))
    (n * height_of e) s.3 (omega (arith, most, s.4))
    (λ c low. below-layer e place n c low)
    (λ c high. from-layer e place n c row high))

pub line-all : (g : Grid) (place : Cell) (n : ℕ) → is_extent g.extent ≡ true → n ≡ g.extent.layers
    → cells_where g.extent (is_before g.extent place n) ≡ cells_where g.extent (is_in_line g.extent place)
line-all g place n right last =
    cells_where-ext g.extent (is_before g.extent place n) (is_in_line g.extent place)
    (λ x held. layers-all g.extent place n x right last held)

-- ---- sets that are added to

pub added-first : (set : Cells) (e : Extent) (place : Cell) → set ≡ cells_where set.extent (has set)
    → set ≡ with_those set (is_before e place 0)
added-first set e place own = with-none set (is_before e place 0) own (λ x held. no-layers e place x)

pub added-next : (set : Cells) (e : Extent) (place : Cell) (n : ℕ) → place.row < height_of e
    → with_those (with_those set (is_before e place n)) (λ x. is_same x (above e place n))
    ≡ with_those set (is_before e place (n + 1))
added-next set e place n row =
    with-more set (is_before e place n) (λ x. is_same x (above e place n)) (is_before e place (n + 1))
    (λ x held. ap (λ b. is_before e place n x || b) (is_same-flip x (above e place n)) ∙ layer-next e place n x row)

pub added-all : (set : Cells) (e : Extent) (place : Cell) (n : ℕ) → set.extent ≡ e → is_extent e ≡ true → n ≡ e.layers
    → with_those set (is_before e place n) ≡ with_those set (is_in_line e place)
added-all set e place n same right last =
    with-ext set (is_before e place n) (is_in_line e place)
    (λ x held. layers-all e place n x right last (subst (λ (d : Extent). holds d x ≡ true) same held))

-- ---- cells of a set that are met

pub met-first : (set : Cells) (e : Extent) (place : Cell) → any_cell (is_before e place 0) set ≡ false
met-first set e place = met-none set (is_before e place 0) (no-layers e place)

pub met-next : (set : Cells) (e : Extent) (place : Cell) (n : ℕ) → place.row < height_of e
    → (any_cell (is_before e place n) set || any_cell (is_same (above e place n)) set)
    ≡ any_cell (is_before e place (n + 1)) set
met-next set e place n row =
    met-or set (is_before e place n) (is_same (above e place n)) (is_before e place (n + 1))
    (λ x. layer-next e place n x row)

-- where a cell of one layer is met, the line is
pub met-line : (e : Extent) (place : Cell) (n : ℕ) (x : Cell) → place.row < height_of e
    → is_same (above e place n) x ≡ true → is_in_line e place x ≡ true
met-line e place n x row t =
    let h = height_of e in
    let same = is_same-true (above e place n) x t in
    let r : n * h + place.row ≡ x.row = ap (λ (c : Cell). c.row) same in
    let k : place.col ≡ x.col = ap (λ (c : Cell). c.col) same in
    let at : x.row % h ≡ place.row = ap (λ (m : ℕ). m % h) (sym r) ∙ mod-mul-add n h place.row row in
    and_from (row_in e x == place.row) (x.col == place.col) (eq-eqb _ _ at) (eq-eqb _ _ (sym k))

pub met-all : (set : Cells) (e : Extent) (place : Cell) (n : ℕ) → set ≡ cells_where e (has set) → is_extent e ≡ true
    → n ≡ e.layers → any_cell (is_before e place n) set ≡ any_cell (is_in_line e place) set
met-all set e place n own right last =
    ap (any_cell (is_before e place n)) own
    ∙ any_cell-ext e (has set) (is_before e place n) (is_in_line e place)
    (λ x held passes. layers-all e place n x right last held)
    ∙ sym (ap (any_cell (is_in_line e place)) own)

-- ---- cells named in a list

-- a cell outside of the shape is none of it
apart : (e : Extent) (x cell : Cell) → holds e cell ≡ true → holds e x ≡ false → is_same x cell ≡ false
apart e x cell held out =
    elim (cases_Bool (is_same x cell)) [
      | inr f ↦ f
      | inl t ↦
          let same = is_same-true x cell t in
          absurd (true≢false (sym held ∙ ap (holds e) (sym same) ∙ out))
    ]

pub named-first : (e : Extent) (place x : Cell) (was : Bool) → was ≡ (was || (holds e x && is_before e place 0 x))
named-first e place x was =
    sym (ap (λ (b : Bool). was || b) (ap (λ (b : Bool). holds e x && b) (no-layers e place x) ∙ and-false (holds e x))
    ∙ or-false was)

pub named-next : (e : Extent) (place : Cell) (n : ℕ) (x cell : Cell) (cells : List Cell) (was : Bool)
    → place.row < height_of e → cell ≡ above e place n → holds e cell ≡ true
    → list_any (is_same x) cells ≡ (was || (holds e x && is_before e place n x))
    → list_any (is_same x) (cells ++ cell ∷ []) ≡ (was || (holds e x && is_before e place (n + 1) x))
named-next e place n x cell cells was row is held told =
    let more : ((holds e x && is_before e place n x) || is_same x cell) ≡ (holds e x && is_before e place (n + 1) x) =
    elim (cases_Bool (holds e x)) [
      | inl t ↦
          rw t
          (ap (λ (c : Cell). is_before e place n x || is_same x c) is
          ∙ ap (λ (b : Bool). is_before e place n x || b) (is_same-flip x (above e place n))
          ∙ layer-next e place n x row)
      | inr f ↦ let no = apart e x cell held f in rw (f, no) refl
    ] in
    list_any-append (is_same x) cells (cell ∷ [])
    ∙ ap₂ (λ (a b : Bool). a || b) told (or-false (is_same x cell))
    ∙ or_assoc was (holds e x && is_before e place n x) (is_same x cell)
    ∙ ap (λ (b : Bool). was || b) more

pub named-all : (e : Extent) (place : Cell) (n : ℕ) (x : Cell) → is_extent e ≡ true → n ≡ e.layers
    → (holds e x && is_before e place n x) ≡ (holds e x && is_in_line e place x)
named-all e place n x right last =
    elim (cases_Bool (holds e x)) [
      | inl t ↦ ap (λ (b : Bool). holds e x && b) (layers-all e place n x right last t)
      | inr f ↦ rw f refl
    ]

-- ---- the first input alone

pub fold-one : (grids : List Grid) (how : Fold) (o : Cell)
    → value_of (FoldLayers how) (input_at grids 0 ∷ []) o ≡ value_of (FoldLayers how) grids o
fold-one grids how o =
    let g = input_at grids 0 in
    ap (λ (e : Extent). fold_of how (numbers_at g (cells_where g.extent (mapped (FoldLayers how) (e ∷ []) 0 o))))
    (sym (extent-of_input grids 0))

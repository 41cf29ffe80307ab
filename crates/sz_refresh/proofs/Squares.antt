-- The cells near changed ones.
--
-- The key idea: a cleaned cell is related to cells in the square round it alone, and a cell is in the square round
-- another exactly where that one is in the square round it. So what a set reaches is in the squares round its cells.
-- A key of a lookup is related to itself.
use Rattle.std.proofs.Common.{◌≡◌, ℕ, ◌+◌, ℤ, Bool, true, false, ◌&&◌, ◌||◌, ◌==◌, nat_le, refl, sym, ap, ap₂, ◌∙◌}
use Rattle.std.proofs.Common.{arith, subst, inl, inr, eq-eqb, le-leb, Result}
use Rattle.std.specs.Result.{result_unwrap_or}
use Rattle.std.proofs.lemmas.Bool.{and_parts, and_from, or_cases, cases_Bool}
use Rattle.std.proofs.lemmas.Bool.Decides.{nat_tests}
use Rattle.std.specs.Prelude.{List}
use Rattle.sz_cells.specs.declared.Cell.{Cell}
use Rattle.sz_cells.specs.Extent.{Extent, holds, layer_of}
use Rattle.sz_cells.specs.Cells.{Cells, is_same, any_cell, cells_where, has, no_cells, with_those}
use Rattle.sz_cells.proofs.Sets.{same_truth, is_same-true, has-cells_where, any_cell-same_turned}
use Rattle.sz_spec.specs.declared.op.Op.{Op}
use Rattle.sz_spec.specs.declared.op.Op.TheVariants.{Clean, Lookup}
use Rattle.sz_spec.specs.declared.shapes.ShapeFault.{ShapeFault}
use Rattle.sz_spec.specs.Values.{Grid, no_extent, extent_at, input_at}
use Rattle.sz_spec.specs.Shapes.{Site, shape_of}
use Rattle.sz_spec.specs.Lineage.{related}
use Rattle.sz_spec.specs.Operators.Clean.{is_hot, is_in_square, is_near}
use Rattle.sz_spec.specs.Work.{IsAtWork}
use Rattle.sz_spec.proofs.PayloadLineage.{extent-of_site}
use Rattle.sz_frame.proofs.Added.{with-ext}
use Rattle.sz_frame.proofs.Passing.{met-wider, met-ext}
use Rattle.sz_refresh.specs.Changes.{reaches}
use Rattle.sz_refresh.proofs.Changes.{with_those-none}

-- ---- squares

eq-flip : (a b : ℕ) → (a == b) ≡ (b == a)
eq-flip a b = grind (arith, nat_tests)

near-flip : (a b : ℕ) → is_near a b ≡ is_near b a
near-flip a b = grind (arith, nat_tests)

square-flip : (e : Extent) (c x : Cell) → is_in_square e c x ≡ is_in_square e x c
square-flip e c x =
    ap₂ (λ (p q : Bool). p && q)
    (ap₂ (λ (p q : Bool). p && q) (eq-flip (layer_of e x) (layer_of e c)) (near-flip x.row c.row))
    (near-flip x.col c.col)

near-self : (a : ℕ) → is_near a a ≡ true
near-self a = and_from (nat_le a (a + 1)) (nat_le a (a + 1)) (le-leb a (a + 1) (omega arith)) (le-leb a (a + 1) (omega
    arith))

pub square-self : (e : Extent) (c : Cell) → is_in_square e c c ≡ true
square-self e c =
    and_from ((layer_of e c == layer_of e c) && is_near c.row c.row) (is_near c.col c.col)
    (and_from (layer_of e c == layer_of e c) (is_near c.row c.row) (eq-eqb (layer_of e c) (layer_of e c) refl)
    (near-self c.row)) (near-self c.col)

-- the shape of a cleaning is that of its input
pub clean-shape : (t : ℤ) (s : Site) (inputs : List Grid) → s.op ≡ Clean t → IsAtWork s inputs
    → extent_at s.ins 0 ≡ s.out
clean-shape t s inputs is work =
    ap (λ (r : Result Extent ShapeFault). result_unwrap_or r no_extent)
    (sym (ap (λ (op : Op). shape_of op s.ins) is) ∙ work.site.shape)

-- a cleaned cell is related to cells in the square round which it is
clean-near : (t : ℤ) (s : Site) (inputs : List Grid) (o x : Cell) → s.op ≡ Clean t → IsAtWork s inputs
    → related s.op inputs 0 o x ≡ true → is_in_square s.out x o ≡ true
clean-near t s inputs o x is work passes =
    let e = (input_at inputs 0).extent in
    let own : e ≡ s.out = extent-of_site s inputs 0 work ∙ clean-shape t s inputs is work in
    let here : related (Clean t) inputs 0 o x ≡ true =
    ap (λ (op : Op). related op inputs 0 o x) (sym is) ∙ passes in
    ap (λ (d : Extent). is_in_square d x o) (sym own)
    ∙ (elim (cases_Bool (is_hot t (input_at inputs 0) o)) [
      | inl hot ↦ square-flip e x o ∙ (rw hot at here)
      | inr cold ↦
          let same : is_same x o ≡ true = rw cold at here in
          let one : x ≡ o = is_same-true x o same in
          ap (λ (z : Cell). is_in_square e z o) one ∙ square-self e o
    ])

-- so what a set reaches is in the squares round its cells
pub clean-round : (t : ℤ) (s : Site) (a b : List Grid) (from near to : Cells) → s.op ≡ Clean t → IsAtWork s a
    → IsAtWork s b
    → near ≡ with_those (no_cells s.out) (λ o. any_cell (λ x. is_in_square s.out x o) from)
    → to.extent ≡ s.out
    → with_those to (λ o. has near o && reaches s.op a b 0 from o) ≡ with_those to (reaches s.op a b 0 from)
clean-round t s a b from near to is first second made own =
    with-ext to (λ o. has near o && reaches s.op a b 0 from o) (reaches s.op a b 0 from)
    (λ o held.
    let round : Cell → Bool = λ c. any_cell (λ x. is_in_square s.out x c) from in
    let there : holds s.out o ≡ true = subst (λ (d : Extent). holds d o ≡ true) own held in
    let inside : has near o ≡ round o =
    ap (λ (set : Cells). has set o) (made ∙ with_those-none s.out round) ∙ has-cells_where s.out round o there in
    same_truth (has near o && reaches s.op a b 0 from o) (reaches s.op a b 0 from o)
    (λ both. (and_parts (has near o) (reaches s.op a b 0 from o) both).1)
    (λ reached.
    and_from (has near o) (reaches s.op a b 0 from o)
    (inside
    ∙ met-wider from (λ x. related s.op a 0 o x || related s.op b 0 o x) (λ x. is_in_square s.out x o)
    (λ x passes.
    elim (or_cases (related s.op a 0 o x) (related s.op b 0 o x) passes) [
      | inl by_old ↦ clean-near t s a o x is first by_old
      | inr by_new ↦ clean-near t s b o x is second by_new
    ]) reached) reached))

-- ---- keys

-- a set of keys reaches the same cells
pub keys-reach : (a b : List Grid) (e : Extent) (from to : Cells) → from ≡ cells_where e (has from) → to.extent ≡ e
    → with_those to (has from) ≡ with_those to (reaches Lookup a b 0 from)
keys-reach a b e from to own same =
    with-ext to (has from) (reaches Lookup a b 0 from)
    (λ o held.
    let there : holds e o ≡ true = subst (λ (d : Extent). holds d o ≡ true) same held in
    sym (met-ext from (λ x. related Lookup a 0 o x || related Lookup b 0 o x) (λ x. is_same x o)
    (λ x. twice (is_same x o))
    ∙ ap (any_cell (λ x. is_same x o)) own
    ∙ any_cell-same_turned e (has from) o there)) where
      twice : (p : Bool) → ((p || false) || (p || false)) ≡ p
      twice true = refl
      twice false = refl

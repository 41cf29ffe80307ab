-- What follows of regions: that a cell matters to its own label, and a neighbour that comes first to the region's.
--
-- The key idea: the label of a high cell is 1 and more, and that of any other cell 0. A neighbour that is raised leaves
-- the region's cells as they are, so lists of high neighbours within the region still lead, and now to it as well; the
-- least connected cell is then no later than that neighbour.
use Rattle.std.proofs.Common.{◌≡◌, ◌+◌, ◌<◌, ◌≤◌, ℤ, pos, true, false}
use Rattle.std.proofs.Common.{List, [], ◌∷◌, length, Option, Some, None, Ok, sym, ap, ◌∙◌, arith, inl, inr}
use Rattle.std.proofs.Common.{nat_lt, ltb-true}
use Rattle.std.specs.Prelude.{int_le}
use Rattle.std.proofs.lemmas.Bool.{cases_Bool, true≢false, false_from_ne_true, ltb-false}
use Rattle.std.proofs.lemmas.Int.{ints}
use Rattle.sz_cells.specs.declared.Cell.{Cell}
use Rattle.sz_cells.specs.Extent.{Extent, holds, index_of, cell_of}
use Rattle.sz_cells.specs.Cells.{is_same}
use Rattle.sz_cells.proofs.Sets.{is_same-true, index-cell, cell-index}
use Rattle.sz_spec.specs.declared.op.Op.{Op}
use Rattle.sz_spec.specs.declared.op.Op.TheVariants.{Regions}
use Rattle.sz_spec.specs.Values.{Grid, input_at, extent_at}
use Rattle.sz_spec.specs.Shapes.{Site, arity, shape_of}
use Rattle.sz_spec.specs.Evaluation.{value_of}
use Rattle.sz_spec.specs.Operators.Clean.{is_at_least}
use Rattle.sz_spec.specs.Operators.Regions.{is_high, is_connected, are_neighbours, labelled_at}
use Rattle.sz_spec.specs.Supports.{supports}
use Rattle.sz_spec.specs.LawsRegions.{Leads}
use Rattle.sz_spec.specs.Work.{IsAtWork}
use Rattle.sz_spec.proofs.Components.{component-closed, connected-self, connected-led, led-connected, leads-first}
use Rattle.sz_spec.proofs.Components.{connected-both_high, label-low, label-high}
use Rattle.sz_spec.proofs.PayloadLineage.{extent-of_site}
use Rattle.sz_support.specs.Changes.{with_value, changed_at}
use Rattle.sz_support.specs.LawsMatter.{OwnCellsOfRegionsMatter, RimCellsBeforeMatter}
use Rattle.sz_support.proofs.OneOperator.{rim-supports}
use Rattle.sz_support.proofs.ChangedInputs.{with-there, with-others, changed-there, inputs-many}

-- ---- labels

-- a number is at least itself
pub at-least_own : (t : ℤ) → int_le t t ≡ true
at-least_own t = grind (arith, ints)

-- the label of a high cell is no 0
label-some : (t : ℤ) (g : Grid) (o : Cell) → holds g.extent o ≡ true → is_high t g o ≡ true
    → labelled_at t g o ≡ Some (pos 0) → ⊥
label-some t g o held high h =
    let first = label-high t g o held high in
    let same : Some (pos (1 + first.0)) ≡ Some (pos 0) = sym first.1 ∙ h in
    let numbers : 1 + first.0 ≡ 0 = cc in
    omega arith

-- ---- changed inputs of regions

-- what is known of inputs of regions that are changed at a cell
pub record Changed (t : ℤ) (s : Site) (inputs : List Grid) (x : Cell) : Type 0 where
  pub extent : (input_at inputs 0).extent ≡ extent_at s.ins 0
  pub out : extent_at s.ins 0 ≡ s.out
  pub value : (gs : List Grid) (o : Cell) → value_of s.op gs o ≡ labelled_at t (input_at gs 0) o
  pub there : (v : Option ℤ) → input_at (changed_at inputs 0 x v) 0 ≡ with_value (input_at inputs 0) x v

pub changed-of : (t : ℤ) (s : Site) (inputs : List Grid) (x : Cell) → s.op ≡ Regions t → IsAtWork s inputs
    → Changed t s inputs x
changed-of t s inputs x is work =
    let told : shape_of (Regions t) s.ins ≡ Ok s.out = ap (λ (p : Op). shape_of p s.ins) (sym is) ∙ (work.site).shape in
    let many : length s.ins ≡ 1 = (work.site).arity ∙ ap arity is in
    let inside : 0 < length inputs = omega (arith, many, inputs-many s inputs work) in
    record {
      extent = extent-of_site s inputs 0 work;
      out = cc;
      value = λ gs o. ap (λ (p : Op). value_of p gs o) is;
      there = λ v. changed-there inputs 0 x v inside;
    }

-- ---- its own label

pub own-matter : OwnCellsOfRegionsMatter
own-matter t s inputs o is work held =
    let known = changed-of t s inputs o is work in
    let g = input_at inputs 0 in
    let inside : holds g.extent o ≡ true = ap (λ (e : Extent). holds e o) (known.extent ∙ known.out) ∙ held in
    let label : (v : Option ℤ) → value_of s.op (changed_at inputs 0 o v) o ≡ labelled_at t (with_value g o v) o =
    λ v. known.value (changed_at inputs 0 o v) o ∙ ap (λ (b : Grid). labelled_at t b o) (known.there v) in
    elim (cases_Bool (is_high t g o)) [
      | inl high ↦
          inl (λ h.
          let low : is_high t (with_value g o None) o ≡ false = ap (is_at_least t) (with-there g o None inside) in
          label-some t g o inside high
          (sym (known.value inputs o) ∙ h ∙ label None ∙ label-low t (with_value g o None) o low))
      | inr low ↦
          inr (λ h.
          let high : is_high t (with_value g o (Some t)) o ≡ true =
          ap (is_at_least t) (with-there g o (Some t) inside) ∙ at-least_own t in
          label-some t (with_value g o (Some t)) o inside high
          (sym (label (Some t)) ∙ sym h ∙ known.value inputs o ∙ label-low t g o low))
    ]

-- ---- a neighbour that comes first

-- a cell of a component is high, where another cell is changed
high-kept : (t : ℤ) (g : Grid) (o x : Cell) (v : Option ℤ) (c : Cell) → holds g.extent x ≡ true
    → is_connected t g o x ≡ false → is_connected t g o c ≡ true → is_high t (with_value g x v) c ≡ true
high-kept t g o x v c held apart inside =
    let both = connected-both_high t g o c inside in
    let other : is_same c x ≡ false =
    false_from_ne_true (is_same c x)
    (λ same. true≢false (sym inside ∙ ap (is_connected t g o) (is_same-true c x same) ∙ apart)) in
    ap (is_at_least t) (with-others g x c v held both.2 other) ∙ both.3

-- so a list that leads within it leads on
leads-kept : (t : ℤ) (g : Grid) (o x : Cell) (v : Option ℤ) → holds g.extent x ≡ true
    → is_connected t g o x ≡ false
    → (c : Cell) (cells : List Cell) (d : Cell) → is_connected t g o c ≡ true
    → Leads t g c cells d → Leads t (with_value g x v) c cells d
leads-kept t g o x v held apart c [] d inside led =
    (led.0, high-kept t g o x v c held apart inside, led.2)
leads-kept t g o x v held apart c (e ∷ cells) d inside led =
    let first = leads-first t g e cells d led.3 in
    let next = component-closed t g o c e inside first.0 first.1 led.2 in
    (led.0, high-kept t g o x v c held apart inside, led.2, leads-kept t g o x v held apart e cells d next led.3)

pub rim-matter : RimCellsBeforeMatter
rim-matter t s inputs o x is known high first h =
    let change = changed-of t s inputs x is known.work in
    let g = input_at inputs 0 in
    let b = with_value g x (Some t) in
    let e = g.extent in
    let held : holds e x ≡ true = ap (λ (d : Extent). holds d x) change.extent ∙ known.there in
    let held_o : holds e o ≡ true = ap (λ (d : Extent). holds d o) (change.extent ∙ change.out) ∙ known.held in
    let before : (c : Cell) → is_connected t g o c ≡ true → index_of e x < index_of e c =
    λ c inside.
    let less = first c inside in
    omega (
      arith,
      less,
      ap (λ (d : Extent). index_of d x) change.extent,
      ap (λ (d : Extent). index_of d c) change.extent,
    ) in
    let apart : is_connected t g o x ≡ false =
    false_from_ne_true (is_connected t g o x) (λ inside. omega (arith, before x inside)) in
    let near = (rim-supports t inputs o x high).0
    (sym (ap (λ (p : Op). supports p inputs 0 o x) is) ∙ known.supports) in
    let c = near.0 in
    let beside : are_neighbours e c x ≡ true =
    elim near.2 [
      | inl same ↦
          absurd (true≢false (sym near.1 ∙ ap (is_connected t g o) same ∙ apart))
      | inr next ↦ next
    ] in
    let own = connected-self t g o held_o high in
    let led = connected-led t g o c near.1 in
    let to_c : is_connected t b o c ≡ true =
    led-connected t b o led.0 c (leads-kept t g o x (Some t) held apart o led.0 c own led.1) in
    let raised : is_high t b x ≡ true = ap (is_at_least t) (with-there g x (Some t) held) ∙ at-least_own t in
    let to_x : is_connected t b o x ≡ true = component-closed t b o c x to_c held raised beside in
    let old = label-high t g o held_o high in
    let new = label-high t b o held_o (high-kept t g o x (Some t) o held apart own) in
    let at_new : is_connected t b o (cell_of e (index_of e x)) ≡ true =
    ap (is_connected t b o) (cell-index e x held) ∙ to_x in
    let low : new.0 ≤ index_of e x =
    elim (cases_Bool (nat_lt (index_of e x) new.0)) [
      | inl less ↦
          absurd (true≢false (sym at_new ∙ new.4 (index_of e x) (ltb-true (index_of e x) new.0 less)))
      | inr more ↦ ltb-false (index_of e x) new.0 more
    ] in
    let high_one : index_of e x < old.0 =
    omega (arith, before (cell_of e old.0) old.3, index-cell e old.0) in
    let labels : labelled_at t g o ≡ labelled_at t b o =
    sym (change.value inputs o) ∙ h ∙ change.value (changed_at inputs 0 x (Some t)) o
    ∙ ap (λ (d : Grid). labelled_at t d o) (change.there (Some t)) in
    let same : Some (pos (1 + old.0)) ≡ Some (pos (1 + new.0)) = sym old.1 ∙ labels ∙ new.1 in
    let numbers : 1 + old.0 ≡ 1 + new.0 = cc in
    omega arith

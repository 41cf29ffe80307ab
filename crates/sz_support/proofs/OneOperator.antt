-- What follows of the cells that support an output cell, over one operator.
--
-- The key idea: all is known of every operator but regions, where the supporting cells are the related ones. For a
-- high cell of regions, take a list of high neighbours that leads on from its component in the new array: its next
-- cell is a neighbour of the component, so it supports, so it is high in the old array too and of the component.
-- So the new component is within the old one, and what is read by either relation is among the supporting cells.
use Rattle.std.proofs.Common.{◌≡◌, ℕ, ◌<◌, ℤ, Bool, true, false, ◌&&◌, ◌||◌, ◌==◌, ◌⊎◌, if◌then◌else◌}
use Rattle.std.proofs.Common.{List, [], ◌∷◌, length, Option, Ok, refl, sym, ap, subst, ◌∙◌, arith, inl, inr, eqb-true}
use Rattle.std.proofs.lemmas.Bool.{cases_Bool, and_parts, and_from, or_cases, or_left, or_right}
use Rattle.sz_cells.specs.declared.Cell.{Cell}
use Rattle.sz_cells.specs.Extent.{Extent, holds}
use Rattle.sz_cells.specs.Cells.{is_same, any_cell}
use Rattle.sz_cells.proofs.Sets.{cells_where-ext, any_cell-true, any_cell-from}
use Rattle.sz_cells.proofs.Sets.{is_same-true, is_same-refl, is_same-from}
use Rattle.sz_spec.specs.declared.op.Op.{Op}
use Rattle.sz_spec.specs.declared.op.Op.TheVariants.{Regions}
use Rattle.sz_spec.specs.Values.{Grid, value_at, input_at, extent_at}
use Rattle.sz_spec.specs.Shapes.{Site, arity, shape_of}
use Rattle.sz_spec.specs.Lineage.{related}
use Rattle.sz_spec.specs.Operators.Clean.{is_at_least}
use Rattle.sz_spec.specs.Operators.Regions.{is_high, are_neighbours, component_of, is_connected}
use Rattle.sz_spec.specs.Supports.{is_of_or_beside, supports}
use Rattle.sz_spec.specs.LawsRegions.{Leads}
use Rattle.sz_spec.specs.LawsDependence.{AgreeWhere, is_regions}
use Rattle.sz_spec.specs.Work.{IsAtWork}
use Rattle.sz_spec.proofs.Components.{component-made, component-closed, connected-self, connected-led}
use Rattle.sz_spec.proofs.Components.{leads-first, connected-both_high}
use Rattle.sz_spec.proofs.Dependence.{relation-depends, value-depends_either, relation-depends_either}
use Rattle.sz_spec.proofs.PayloadLineage.{extent-of_site, related-inputs}
use Rattle.sz_support.specs.LawsSupports.{RelatedCellsSupport, RelationsSupport, RegionsRestOnTheirRims}
use Rattle.sz_support.specs.LawsSupports.{LowCellsRestOnThemselves, ValuesDependOnSupportingCells}
use Rattle.sz_support.specs.LawsSupports.{SupportsDependOnSupportingCells}

-- an array of a shape with other values, and an array as one of a shape that is its own
abbrev pub sheet : Extent → List (Option ℤ) → Grid
sheet e values = record { extent = e; values = values }

as-sheet : (g : Grid) (e : Extent) → g.extent ≡ e → g ≡ sheet e g.values
as-sheet g e same = ap (λ (d : Extent). sheet d g.values) same

-- arrays that hold the same value at each cell of their shape that passes a test
abbrev AgreeOn : Extent → (Cell → Bool) → Grid → Grid → Type 0
AgreeOn e test a b = (x : Cell) → holds e x ≡ true → test x ≡ true → value_at a x ≡ value_at b x

high-agree : (t : ℤ) (a b : Grid) (o : Cell) → value_at a o ≡ value_at b o → is_high t a o ≡ is_high t b o
high-agree t a b o same = ap (is_at_least t) same

-- ---- a component and its neighbours

-- what is of a component or beside it: the cell of the component
beside-true : (t : ℤ) (g : Grid) (o x : Cell) → is_of_or_beside t g o x ≡ true
    → (c : Cell) × (is_connected t g o c ≡ true) × ((is_same c x || are_neighbours g.extent c x) ≡ true)
beside-true t g o x h =
    let test : Cell → Bool = λ c. is_same c x || are_neighbours g.extent c x in
    let found = any_cell-true g.extent (is_connected t g o) test
    (ap (any_cell test) (sym (component-made t g o)) ∙ h) in
    (found.0, found.2, found.3)

beside-from : (t : ℤ) (g : Grid) (o x c : Cell) → is_connected t g o c ≡ true
    → (is_same c x || are_neighbours g.extent c x) ≡ true → is_of_or_beside t g o x ≡ true
beside-from t g o x c inside near =
    let test : Cell → Bool = λ d. is_same d x || are_neighbours g.extent d x in
    ap (any_cell test) (component-made t g o)
    ∙ any_cell-from g.extent (is_connected t g o) test c (connected-both_high t g o c inside).2 inside near

-- the component itself is
of-component : (t : ℤ) (g : Grid) (o x : Cell) → is_connected t g o x ≡ true → is_of_or_beside t g o x ≡ true
of-component t g o x inside =
    beside-from t g o x x inside (or_left (is_same x x) (are_neighbours g.extent x x) (is_same-refl x))

-- the cells that fix the value of a cell of regions, and those to which it is related
abbrev fixes : ℤ → Grid → Cell → Cell → Bool
fixes t g o x = if is_high t g o then is_of_or_beside t g o x else is_same x o

abbrev joins : ℤ → Grid → Cell → Cell → Bool
joins t g o x = if is_high t g o then is_connected t g o x else is_same x o

joins-fixes : (t : ℤ) (g : Grid) (o x : Cell) → joins t g o x ≡ true → fixes t g o x ≡ true
joins-fixes t g o x joined =
    elim (cases_Bool (is_high t g o)) [
      | inl high ↦ rw high (of-component t g o x (rw high at joined))
      | inr low ↦ rw low (rw low at joined)
    ]

fixes-own : (t : ℤ) (g : Grid) (o : Cell) → holds g.extent o ≡ true → fixes t g o o ≡ true
fixes-own t g o held =
    elim (cases_Bool (is_high t g o)) [
      | inl high ↦ rw high (of-component t g o o (connected-self t g o held high))
      | inr low ↦ rw low (is_same-refl o)
    ]

-- ---- regions in two arrays

-- a list of high neighbours of the new array does not leave the old component
led-old : (e : Extent) (t : ℤ) (o : Cell) (vs ws : List (Option ℤ))
    → AgreeOn e (is_of_or_beside t (sheet e vs) o) (sheet e vs) (sheet e ws)
    → (c : Cell) (cells : List Cell) (x : Cell) → is_connected t (sheet e vs) o c ≡ true
    → Leads t (sheet e ws) c cells x → is_connected t (sheet e vs) o x ≡ true
led-old e t o vs ws same c [] x inside led =
    subst (λ (z : Cell). is_connected t (sheet e vs) o z ≡ true) led.2 inside
led-old e t o vs ws same c (d ∷ cells) x inside led =
    let a = sheet e vs in
    let b = sheet e ws in
    let first = leads-first t b d cells x led.3 in
    let beside = beside-from t a o d c inside (or_right (is_same c d) (are_neighbours e c d) led.2) in
    let high : is_high t a d ≡ true = high-agree t a b d (same d first.0 beside) ∙ first.1 in
    led-old e t o vs ws same d cells x (component-closed t a o c d inside first.0 high led.2) led.3

-- the cell is high in both arrays, or in neither
high-in_both : (e : Extent) (t : ℤ) (o : Cell) (vs ws : List (Option ℤ)) → holds e o ≡ true
    → AgreeOn e (fixes t (sheet e vs) o) (sheet e vs) (sheet e ws)
    → ((is_high t (sheet e vs) o ≡ true) × (is_high t (sheet e ws) o ≡ true))
    ⊎ ((is_high t (sheet e vs) o ≡ false) × (is_high t (sheet e ws) o ≡ false))
high-in_both e t o vs ws held same =
    let a = sheet e vs in
    let alike = high-agree t a (sheet e ws) o (same o held (fixes-own t a o held)) in
    elim (cases_Bool (is_high t a o)) [
      | inl high ↦ inl (high, sym alike ∙ high)
      | inr low ↦ inr (low, sym alike ∙ low)
    ]

-- what fixes the cell in the old array agrees in the new one: then what the cell is related to in the new array
-- fixes it in the old one
joins-old : (e : Extent) (t : ℤ) (o x : Cell) (vs ws : List (Option ℤ)) → holds e o ≡ true
    → AgreeOn e (fixes t (sheet e vs) o) (sheet e vs) (sheet e ws)
    → joins t (sheet e ws) o x ≡ true → joins t (sheet e vs) o x ≡ true
joins-old e t o x vs ws held same joined =
    let a = sheet e vs in
    let b = sheet e ws in
    elim (high-in_both e t o vs ws held same) [
      | inl high ↦
          let inside : is_connected t b o x ≡ true = rw high.1 at joined in
          let near : AgreeOn e (is_of_or_beside t a o) a b =
          λ y there beside. same y there (rw high.0 beside) in
          let led = connected-led t b o x inside in
          rw high.0 (led-old e t o vs ws near o led.0 x (connected-self t a o held high.0) led.1)
      | inr low ↦ rw low.0 (rw low.1 at joined)
    ]

-- so the cells that fix it are one, where those to which it is related are
fixes-same : (e : Extent) (t : ℤ) (o : Cell) (vs ws : List (Option ℤ)) → holds e o ≡ true
    → AgreeOn e (fixes t (sheet e vs) o) (sheet e vs) (sheet e ws)
    → ((x : Cell) → joins t (sheet e vs) o x ≡ joins t (sheet e ws) o x)
    → (x : Cell) → fixes t (sheet e vs) o x ≡ fixes t (sheet e ws) o x
fixes-same e t o vs ws held same one x =
    let a = sheet e vs in
    let b = sheet e ws in
    elim (high-in_both e t o vs ws held same) [
      | inl high ↦
          let inner : (y : Cell) → is_connected t a o y ≡ is_connected t b o y =
          λ y. rw (high.0, high.1) at (one y) in
          let component : component_of t a o ≡ component_of t b o =
          component-made t a o
          ∙ cells_where-ext e (is_connected t a o) (is_connected t b o) (λ y inside. inner y)
          ∙ sym (component-made t b o) in
          rw (high.0, high.1) (ap (any_cell (λ c. is_same c x || are_neighbours e c x)) component)
      | inr low ↦ rw (low.0, low.1) refl
    ]

-- ---- operator by operator

pub supports-related : RelationsSupport
supports-related (Regions t) inputs i o x h = (cc)
supports-related _ inputs i o x h = refl

-- an operator is regions or not
regions-or_not : (op : Op) → ((t : ℤ) × (op ≡ Regions t)) ⊎ (is_regions op ≡ false)
regions-or_not (Regions t) = inl (t, refl)
regions-or_not _ = inr refl

-- a related cell supports
pub related-supports : RelatedCellsSupport
related-supports op inputs i o x passes =
    elim (regions-or_not op) [
      | inl known ↦
          let g = input_at inputs 0 in
          let both = and_parts (i == 0) (joins known.0 g o x)
          (sym (ap (λ (p : Op). related p inputs i o x) known.1) ∙ passes) in
          ap (λ (p : Op). supports p inputs i o x) known.1
          ∙ and_from (i == 0) (fixes known.0 g o x) both.0 (joins-fixes known.0 g o x both.1)
      | inr other ↦ supports-related op inputs i o x other ∙ passes
    ]

-- only cells of the inputs support
pub supports-below : (s : Site) (inputs : List Grid) (i : ℕ) (o x : Cell) → IsAtWork s inputs
    → supports s.op inputs i o x ≡ true → i < length s.ins
supports-below s inputs i o x work passes =
    elim (regions-or_not s.op) [
      | inl known ↦
          let both = and_parts (i == 0) (fixes known.0 (input_at inputs 0) o x)
          (sym (ap (λ (p : Op). supports p inputs i o x) known.1) ∙ passes) in
          let few : length s.ins ≡ 1 = (work.site).arity ∙ ap arity known.1 in
          omega (arith, few, eqb-true i 0 both.0)
      | inr other ↦
          let first = related-inputs s.op inputs i o x (sym (supports-related s.op inputs i o x other) ∙ passes) in
          omega (arith, first, (work.site).arity)
    ]

pub rim-supports : RegionsRestOnTheirRims
rim-supports t inputs o x high =
    let g = input_at inputs 0 in (
      λ passes.
          let found = beside-true t g o x (rw high at passes) in (
            found.0,
            found.1,
            elim (or_cases (is_same found.0 x) (are_neighbours g.extent found.0 x) found.2) [
              | inl same ↦ inl (is_same-true found.0 x same)
              | inr near ↦ inr near
            ],
          ),
      λ known.
          rw high (beside-from t g o x known.0 known.1 (elim known.2 [
            | inl same ↦ or_left (is_same known.0 x) (are_neighbours g.extent known.0 x)
                (is_same-from known.0 x same)
            | inr near ↦ or_right (is_same known.0 x) (are_neighbours g.extent known.0 x) near
          ])),
    )

pub low-supports : LowCellsRestOnThemselves
low-supports t inputs o x low = rw low refl

-- ---- the laws

-- the inputs of a site of regions, as arrays of its shape that agree on what fixes the cell
record AtRegions (t : ℤ) (old new : List Grid) (o : Cell) : Type 0 where
  extent : Extent
  first : input_at old 0 ≡ sheet extent (input_at old 0).values
  second : input_at new 0 ≡ sheet extent (input_at new 0).values
  held : holds extent o ≡ true
  agree : AgreeOn extent (fixes t (sheet extent (input_at old 0).values) o) (sheet extent (input_at old 0).values)
      (sheet extent (input_at new 0).values)

at-regions : (s : Site) (t : ℤ) (old new : List Grid) (o : Cell) → s.op ≡ Regions t → IsAtWork s old → IsAtWork s new
    → holds s.out o ≡ true → AgreeWhere s (λ i x. supports s.op old i o x) old new → AtRegions t old new o
at-regions s t old new o is first second held same =
    let e = extent_at s.ins 0 in
    let a = input_at old 0 in
    let b = input_at new 0 in
    let one = as-sheet a e (extent-of_site s old 0 first) in
    let two = as-sheet b e (extent-of_site s new 0 second) in
    let told : shape_of (Regions t) s.ins ≡ Ok s.out =
    ap (λ (p : Op). shape_of p s.ins) (sym is) ∙ (first.site).shape in
    let shape : e ≡ s.out = cc in
    let few : length s.ins ≡ 1 = (first.site).arity ∙ ap arity is in
    record {
      extent = e;
      first = one;
      second = two;
      held = ap (λ (d : Extent). holds d o) shape ∙ held;
      agree = λ x there passes.
          sym (ap (λ (g : Grid). value_at g x) one)
          ∙ same 0 x (omega (arith, few)) there
          (ap (λ (p : Op). supports p old 0 o x) is ∙ ap (λ (g : Grid). fixes t g o x) one ∙ passes)
          ∙ ap (λ (g : Grid). value_at g x) two;
    }

-- what the cell is related to by the new inputs supports it by the old ones
related-new : (s : Site) (old new : List Grid) (i : ℕ) (o x : Cell) → IsAtWork s old → IsAtWork s new
    → holds s.out o ≡ true → AgreeWhere s (λ j y. supports s.op old j o y) old new
    → related s.op new i o x ≡ true → supports s.op old i o x ≡ true
related-new s old new i o x first second held same passes =
    elim (regions-or_not s.op) [
      | inl known ↦
          let t = known.0 in
          let at = at-regions s t old new o known.1 first second held same in
          let both = and_parts (i == 0) (joins t (input_at new 0) o x)
          (sym (ap (λ (p : Op). related p new i o x) known.1) ∙ passes) in
          let joined = joins-old at.extent t o x (input_at old 0).values (input_at new 0).values at.held at.agree
          (sym (ap (λ (g : Grid). joins t g o x) at.second) ∙ both.1) in
          ap (λ (p : Op). supports p old i o x) known.1
          ∙ and_from (i == 0) (fixes t (input_at old 0) o x) both.0
          (joins-fixes t (input_at old 0) o x (ap (λ (g : Grid). joins t g o x) at.first ∙ joined))
      | inr other ↦
          let only : AgreeWhere s (λ j y. related s.op old j o y) old new =
          λ j y inside there near. same j y inside there (supports-related s.op old j o y other ∙ near) in
          supports-related s.op old i o x other
          ∙ relation-depends s old new i o x first second held other only ∙ passes
    ]

-- so what is read by either relation is among the supporting cells
agree-either : (s : Site) (old new : List Grid) (o : Cell) → IsAtWork s old → IsAtWork s new → holds s.out o ≡ true
    → AgreeWhere s (λ i x. supports s.op old i o x) old new
    → AgreeWhere s (λ i x. related s.op old i o x || related s.op new i o x) old new
agree-either s old new o first second held same i x inside there passes =
    same i x inside there
    (elim (or_cases (related s.op old i o x) (related s.op new i o x) passes) [
      | inl by_old ↦ related-supports s.op old i o x by_old
      | inr by_new ↦ related-new s old new i o x first second held same by_new
    ])

pub value-supported : ValuesDependOnSupportingCells
value-supported s old new o first second held same =
    value-depends_either s old new o first second held (agree-either s old new o first second held same)

pub supports-kept : SupportsDependOnSupportingCells
supports-kept s old new i o x first second held same =
    let one : (j : ℕ) (y : Cell) → related s.op old j o y ≡ related s.op new j o y =
    λ j y. relation-depends_either s old new j o y first second held
    (agree-either s old new o first second held same) in
    elim (regions-or_not s.op) [
      | inl known ↦
          let t = known.0 in
          let at = at-regions s t old new o known.1 first second held same in
          let alike : (y : Cell) → joins t (sheet at.extent (input_at old 0).values) o y
          ≡ joins t (sheet at.extent (input_at new 0).values) o y =
          λ y.
          sym (ap (λ (g : Grid). joins t g o y) at.first)
          ∙ sym (ap (λ (p : Op). related p old 0 o y) known.1)
          ∙ one 0 y
          ∙ ap (λ (p : Op). related p new 0 o y) known.1
          ∙ ap (λ (g : Grid). joins t g o y) at.second in
          let fixed = ap (λ (g : Grid). fixes t g o x) at.first
          ∙ fixes-same at.extent t o (input_at old 0).values (input_at new 0).values at.held at.agree alike x
          ∙ sym (ap (λ (g : Grid). fixes t g o x) at.second) in
          ap (λ (p : Op). supports p old i o x) known.1
          ∙ ap (λ (c : Bool). (i == 0) && c) fixed
          ∙ sym (ap (λ (p : Op). supports p new i o x) known.1)
      | inr other ↦
          supports-related s.op old i o x other ∙ one i x ∙ sym (supports-related s.op new i o x other)
    ]

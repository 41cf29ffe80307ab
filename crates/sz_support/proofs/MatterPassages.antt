-- What follows of regions: exactly which cells matter to a region's label, within it and beside it.
--
-- The key idea: a label is told by the region's first cell, and a cell is in a region where a list of high neighbours
-- leads to it. A list that does not pass x leads on whatever x holds; one that does no longer leads where x is emptied.
-- Where x is raised, a list that passes it goes on, behind the last time, from a neighbour of x as it did before.
use Rattle.std.proofs.Common.{◌≡◌, ℕ, ◌+◌, ◌<◌, ◌≤◌, ◌⊎◌, ℤ, pos, true, false, List, [], ◌∷◌, Option, Some, None}
use Rattle.std.proofs.Common.{refl, sym, ap, ◌∙◌, arith, inl, inr, nat_lt, ltb-true}
use Rattle.std.specs.List.{list_any}
use Rattle.std.proofs.lemmas.Bool.{cases_Bool, cases_order, true≢false, false_from_ne_true, true_from_ne_false}
use Rattle.std.proofs.lemmas.Bool.{or_parts, or_from, ltb-false}
use Rattle.sz_cells.specs.declared.Cell.{Cell}
use Rattle.sz_cells.specs.Extent.{Extent, holds, index_of, cell_of}
use Rattle.sz_cells.specs.Cells.{is_same}
use Rattle.sz_cells.proofs.Sets.{is_same-true, index-cell, cell-index}
use Rattle.sz_spec.specs.declared.op.Op.{Op}
use Rattle.sz_spec.specs.Values.{Grid, input_at}
use Rattle.sz_spec.specs.Shapes.{Site}
use Rattle.sz_spec.specs.Evaluation.{value_of}
use Rattle.sz_spec.specs.Operators.Clean.{is_at_least}
use Rattle.sz_spec.specs.Operators.Regions.{is_high, is_connected, are_neighbours, labelled_at}
use Rattle.sz_spec.specs.Supports.{supports}
use Rattle.sz_spec.specs.LawsRegions.{Leads}
use Rattle.sz_spec.proofs.Components.{component-closed, connected-led, led-connected}
use Rattle.sz_spec.proofs.Components.{connected-both_high, connected-parts, label-low, label-high}
use Rattle.sz_support.specs.Changes.{with_value, changed_at}
use Rattle.sz_support.specs.LawsExactly.{IsFirst, RegionsHaveFirstCells, StandsBetween, InnerCellsOfRegionsMatter}
use Rattle.sz_support.specs.LawsExactly.{JoinsBefore, RimCellsOfRegionsMatter}
use Rattle.sz_support.proofs.OneOperator.{sheet, rim-supports}
use Rattle.sz_support.proofs.ChangedInputs.{with-there, with-others}
use Rattle.sz_support.proofs.MatterRegions.{Changed, changed-of, at-least_own}

-- ---- first cells

-- the least connected cell is no later than one that is connected
least-below : (t : ℤ) (g : Grid) (o d : Cell) (k : ℕ) → is_connected t g o d ≡ true
    → ((j : ℕ) → j < k → is_connected t g o (cell_of g.extent j) ≡ false) → k ≤ index_of g.extent d
least-below t g o d k inside before =
    let e = g.extent in
    let both = connected-both_high t g o d inside in
    elim (cases_Bool (nat_lt (index_of e d) k)) [
      | inl less ↦
          absurd (true≢false (sym inside ∙ sym (ap (is_connected t g o) (cell-index e d both.2))
          ∙ before (index_of e d) (ltb-true (index_of e d) k less)))
      | inr more ↦ ltb-false (index_of e d) k more
    ]

-- the label is that of the first cell
first-label : (t : ℤ) (g : Grid) (o c : Cell) → IsFirst t g o c
    → labelled_at t g o ≡ Some (pos (1 + index_of g.extent c))
first-label t g o c first =
    let e = g.extent in
    let both = connected-both_high t g o c first.inside in
    let least = label-high t g o both.0 both.1 in
    let low = least-below t g o c least.0 first.inside least.4 in
    let high = first.first (cell_of e least.0) least.3 in
    let one : least.0 ≡ index_of e c = omega (arith, low, high, index-cell e least.0) in
    least.1 ∙ ap (λ (k : ℕ). Some (pos (1 + k))) one

pub regions-first : RegionsHaveFirstCells
regions-first t g o held high =
    let e = g.extent in
    let least = label-high t g o held high in
    let first : IsFirst t g o (cell_of e least.0) =
    record {
      inside = least.3;
      first = λ d inside. omega (arith, least-below t g o d least.0 inside least.4, index-cell e least.0);
    } in
    (cell_of e least.0, first, first-label t g o (cell_of e least.0) first)

-- ---- lists in two arrays of one shape

-- what is high in the first array is high in the second, but perhaps for x
abbrev HighBut : Extent → ℤ → Cell → List (Option ℤ) → List (Option ℤ) → Type 0
HighBut e t x vs ws = (y : Cell) → holds e y ≡ true → is_same y x ≡ false
    → is_high t (sheet e vs) y ≡ true → is_high t (sheet e ws) y ≡ true

abbrev High : Extent → ℤ → List (Option ℤ) → List (Option ℤ) → Type 0
High e t vs ws = (y : Cell) → holds e y ≡ true → is_high t (sheet e vs) y ≡ true → is_high t (sheet e ws) y ≡ true

-- a list that does not pass x leads in the second array too
leads-but : (e : Extent) (t : ℤ) (x : Cell) (vs ws : List (Option ℤ)) → HighBut e t x vs ws
    → (o : Cell) (cells : List Cell) (c : Cell) → list_any (λ d. is_same d x) (o ∷ cells) ≡ false
    → Leads t (sheet e vs) o cells c → Leads t (sheet e ws) o cells c
leads-but e t x vs ws high o [] c free led =
    (led.0, high o led.0 (or_parts (is_same o x) false free).0 led.1, led.2)
leads-but e t x vs ws high o (d ∷ cells) c free led =
    let parts = or_parts (is_same o x) (list_any (λ y. is_same y x) (d ∷ cells)) free in
    (led.0, high o led.0 parts.0 led.1, led.2, leads-but e t x vs ws high d cells c parts.1 led.3)

-- and each list, where all that is high in the first is high in the second
leads-on : (e : Extent) (t : ℤ) (vs ws : List (Option ℤ)) → High e t vs ws
    → (o : Cell) (cells : List Cell) (c : Cell) → Leads t (sheet e vs) o cells c → Leads t (sheet e ws) o cells c
leads-on e t vs ws high o [] c led = (led.0, high o led.0 led.1, led.2)
leads-on e t vs ws high o (d ∷ cells) c led =
    (led.0, high o led.0 led.1, led.2, leads-on e t vs ws high d cells c led.3)

connected-on : (e : Extent) (t : ℤ) (vs ws : List (Option ℤ)) → High e t vs ws → (o c : Cell)
    → is_connected t (sheet e vs) o c ≡ true → is_connected t (sheet e ws) o c ≡ true
connected-on e t vs ws high o c inside =
    let led = connected-led t (sheet e vs) o c inside in
    led-connected t (sheet e ws) o led.0 c (leads-on e t vs ws high o led.0 c led.1)

-- a high cell is no cell that is not high
not-low : (t : ℤ) (g : Grid) (x y : Cell) → is_high t g x ≡ false → is_high t g y ≡ true → is_same y x ≡ false
not-low t g x y low high =
    false_from_ne_true (is_same y x)
    (λ same. true≢false (sym high ∙ ap (is_high t g) (is_same-true y x same) ∙ low))

-- a list that leads does not pass a cell that is not high
leads-past : (t : ℤ) (g : Grid) (x o : Cell) (cells : List Cell) (c : Cell) → is_high t g x ≡ false
    → Leads t g o cells c → list_any (λ d. is_same d x) (o ∷ cells) ≡ false
leads-past t g x o [] c low led = or_from (is_same o x) false (not-low t g x o low led.1) refl
leads-past t g x o (d ∷ cells) c low led =
    or_from (is_same o x) (list_any (λ y. is_same y x) (d ∷ cells)) (not-low t g x o low led.1)
    (leads-past t g x d cells c low led.3)

-- a list of the second array is one of the first, or it ends in x, or from a neighbour of x on it is one of the first
led-split : (e : Extent) (t : ℤ) (x : Cell) (vs ws : List (Option ℤ)) → HighBut e t x ws vs
    → (o : Cell) (cells : List Cell) (d : Cell) → Leads t (sheet e ws) o cells d
    → (Leads t (sheet e vs) o cells d)
    ⊎ ((d ≡ x)
    ⊎ ((y : Cell) × (are_neighbours e x y ≡ true) × (is_connected t (sheet e vs) y d ≡ true)))
led-split e t x vs ws high o [] d led =
    elim (cases_Bool (is_same o x)) [
      | inl same ↦ inr (inl (sym led.2 ∙ is_same-true o x same))
      | inr other ↦ inl (led.0, high o led.0 other led.1, led.2)
    ]
led-split e t x vs ws high o (f ∷ cells) d led =
    elim (led-split e t x vs ws high f cells d led.3) [
      | inl rest ↦
          elim (cases_Bool (is_same o x)) [
            | inl same ↦
                inr (inr (
                  f,
                  ap (λ (y : Cell). are_neighbours e y f) (sym (is_same-true o x same)) ∙ led.2,
                  led-connected t (sheet e vs) f cells d rest,
                ))
            | inr other ↦ inl (led.0, high o led.0 other led.1, led.2, rest)
          ]
      | inr found ↦ inr found
    ]

-- ---- an array that is changed at x

-- all but x is as high as it was, either way
kept-high : (t : ℤ) (g : Grid) (x : Cell) (v : Option ℤ) → holds g.extent x ≡ true
    → HighBut g.extent t x g.values (with_value g x v).values
kept-high t g x v held y there other high = ap (is_at_least t) (with-others g x y v held there other) ∙ high

was-high : (t : ℤ) (g : Grid) (x : Cell) (v : Option ℤ) → holds g.extent x ≡ true
    → HighBut g.extent t x (with_value g x v).values g.values
was-high t g x v held y there other high =
    sym (ap (is_at_least t) (with-others g x y v held there other)) ∙ high

-- with x high in the second array, or not high in the first, all that is high in the first is high in the second
all-high : (e : Extent) (t : ℤ) (x : Cell) (vs ws : List (Option ℤ)) → HighBut e t x vs ws
    → (is_high t (sheet e vs) x ≡ true → is_high t (sheet e ws) x ≡ true) → High e t vs ws
all-high e t x vs ws others own y there high =
    elim (cases_Bool (is_same y x)) [
      | inl same ↦
          let one = is_same-true y x same in
          ap (is_high t (sheet e ws)) one ∙ own (sym (ap (is_high t (sheet e vs)) one) ∙ high)
      | inr other ↦ others y there other high
    ]

-- labels of changed inputs
labels-same : (t : ℤ) (s : Site) (inputs : List Grid) (o x : Cell) (v : Option ℤ) → Changed t s inputs x
    → labelled_at t (input_at inputs 0) o ≡ labelled_at t (with_value (input_at inputs 0) x v) o
    → value_of s.op inputs o ≡ value_of s.op (changed_at inputs 0 x v) o
labels-same t s inputs o x v change same =
    change.value inputs o ∙ same
    ∙ sym (change.value (changed_at inputs 0 x v) o ∙ ap (λ (d : Grid). labelled_at t d o) (change.there v))

labels-told : (t : ℤ) (s : Site) (inputs : List Grid) (o x : Cell) (v : Option ℤ) → Changed t s inputs x
    → value_of s.op inputs o ≡ value_of s.op (changed_at inputs 0 x v) o
    → labelled_at t (input_at inputs 0) o ≡ labelled_at t (with_value (input_at inputs 0) x v) o
labels-told t s inputs o x v change same =
    sym (change.value inputs o) ∙ same ∙ change.value (changed_at inputs 0 x v) o
    ∙ ap (λ (d : Grid). labelled_at t d o) (change.there v)

-- where the first cell stays the first, the label stays
label-stays : (t : ℤ) (g : Grid) (o x c : Cell) (v : Option ℤ) → IsFirst t g o c
    → is_connected t (with_value g x v) o c ≡ true → High g.extent t (with_value g x v).values g.values
    → labelled_at t g o ≡ labelled_at t (with_value g x v) o
label-stays t g o x c v first inside was =
    let still : IsFirst t (with_value g x v) o c =
    record {
      inside = inside;
      first = λ d there. first.first d (connected-on g.extent t (with_value g x v).values g.values was o d there);
    } in
    first-label t g o c first ∙ sym (first-label t (with_value g x v) o c still)

-- two labels of high cells are one where the first cells' indexes are
same-index : (j k : ℕ) → Some (pos (1 + j)) ≡ Some (pos (1 + k)) → j ≡ k
same-index j k same = let numbers : 1 + j ≡ 1 + k = cc in omega arith

some-index : (j : ℕ) → Some (pos (1 + j)) ≡ Some (pos 0) → ⊥
some-index j same = let numbers : 1 + j ≡ 0 = cc in omega arith

-- ---- within a region

inner-differs : (t : ℤ) (g : Grid) (o x c : Cell) → IsFirst t g o c → is_connected t g o x ≡ true
    → StandsBetween t g o c x → labelled_at t g o ≡ labelled_at t (with_value g x None) o → ⊥
inner-differs t g o x c first inside stands same =
    let e = g.extent in
    let b = with_value g x None in
    let to_x = connected-both_high t g o x inside in
    let low : is_high t b x ≡ false = ap (is_at_least t) (with-there g x None to_x.2) in
    let old = first-label t g o c first in
    elim (cases_Bool (is_high t b o)) [
      | inl high ↦
          let least = label-high t b o to_x.0 high in
          let index = same-index (index_of e c) least.0 (sym old ∙ same ∙ least.1) in
          let held_c = (connected-both_high t g o c first.inside).2 in
          let cell : cell_of e least.0 ≡ c = ap (cell_of e) (sym index) ∙ cell-index e c held_c in
          let led = connected-led t b o c (ap (is_connected t b o) (sym cell) ∙ least.3) in
          let before = leads-on e t b.values g.values
          (all-high e t x b.values g.values (was-high t g x None to_x.2) (λ _. to_x.3)) o led.0 c led.1 in
          true≢false (sym (stands led.0 before) ∙ leads-past t b x o led.0 c low led.1)
      | inr below ↦ some-index (index_of e c) (sym old ∙ same ∙ label-low t b o below)
    ]

-- a list that does not pass x leads to the first cell still
inner-idle : (t : ℤ) (g : Grid) (o x c : Cell) (v : Option ℤ) → IsFirst t g o c → is_connected t g o x ≡ true
    → (cells : List Cell) → Leads t g o cells c → list_any (λ d. is_same d x) (o ∷ cells) ≡ false
    → labelled_at t g o ≡ labelled_at t (with_value g x v) o
inner-idle t g o x c v first inside cells led free =
    let e = g.extent in
    let b = with_value g x v in
    let to_x = connected-both_high t g o x inside in
    let on = leads-but e t x g.values b.values (kept-high t g x v to_x.2) o cells c free led in
    label-stays t g o x c v first (led-connected t b o cells c on)
    (all-high e t x b.values g.values (was-high t g x v to_x.2) (λ _. to_x.3))

pub inner-matter : InnerCellsOfRegionsMatter
inner-matter t s inputs o x c is work first inside =
    let change = changed-of t s inputs x is work in
    let g = input_at inputs 0 in (
      λ stands same.
          inner-differs t g o x c first inside stands (labels-told t s inputs o x None change same),
      λ matters cells led.
          true_from_ne_false (list_any (λ d. is_same d x) (o ∷ cells))
          (λ free.
          matters.2
          (labels-same t s inputs o x matters.0 change
          (inner-idle t g o x c matters.0 first inside cells led free))),
    )

-- ---- beside a region

-- what is not high is as high in the changed array, or more
rise-high : (t : ℤ) (g : Grid) (x : Cell) (v : Option ℤ) → holds g.extent x ≡ true → is_high t g x ≡ false
    → High g.extent t g.values (with_value g x v).values
rise-high t g x v held low =
    all-high g.extent t x g.values (with_value g x v).values (kept-high t g x v held)
    (λ high. absurd (true≢false (sym high ∙ low)))

-- raised, it joins the region to what it joins
raised-joins : (t : ℤ) (g : Grid) (o x n d : Cell) → holds g.extent x ≡ true → is_high t g x ≡ false
    → is_connected t g o n ≡ true → are_neighbours g.extent n x ≡ true
    → ((d ≡ x) ⊎ ((y : Cell) × (are_neighbours g.extent x y ≡ true) × (is_connected t g y d ≡ true)))
    → is_connected t (with_value g x (Some t)) o d ≡ true
raised-joins t g o x n d held low near beside joins =
    let e = g.extent in
    let b = with_value g x (Some t) in
    let raised : is_high t b x ≡ true = ap (is_at_least t) (with-there g x (Some t) held) ∙ at-least_own t in
    let on = connected-on e t g.values b.values (rise-high t g x (Some t) held low) in
    let to_x : is_connected t b o x ≡ true = component-closed t b o n x (on o n near) held raised beside in
    elim joins [
      | inl own ↦ ap (is_connected t b o) own ∙ to_x
      | inr found ↦
          let there = on found.0 d found.2 in
          let both = connected-both_high t b found.0 d there in
          connected-parts t b o found.0 d (component-closed t b o x found.0 to_x both.0 both.1 found.1) there
    ]

-- so the label is that of a cell before the first
joined-differs : (t : ℤ) (g : Grid) (o x c d : Cell) → IsFirst t g o c
    → is_connected t (with_value g x (Some t)) o d ≡ true → index_of g.extent d < index_of g.extent c
    → labelled_at t g o ≡ labelled_at t (with_value g x (Some t)) o → ⊥
joined-differs t g o x c d first to_d before same =
    let e = g.extent in
    let b = with_value g x (Some t) in
    let to_o = connected-both_high t b o d to_d in
    let least = label-high t b o to_o.0 to_o.1 in
    let below = least-below t b o d least.0 to_d least.4 in
    let index = same-index (index_of e c) least.0 (sym (first-label t g o c first) ∙ same ∙ least.1) in
    omega (arith, below, before, index)

-- where the label differs it is that of such a cell
joined-before : (t : ℤ) (g : Grid) (o x c : Cell) (v : Option ℤ) → IsFirst t g o c → holds g.extent x ≡ true
    → is_high t g x ≡ false → (labelled_at t g o ≡ labelled_at t (with_value g x v) o → ⊥) → JoinsBefore t g c x
joined-before t g o x c v first held low differs =
    let e = g.extent in
    let b = with_value g x v in
    let still : is_connected t b o c ≡ true =
    connected-on e t g.values b.values (rise-high t g x v held low) o c first.inside in
    let to_o = connected-both_high t b o c still in
    let least = label-high t b o to_o.0 to_o.1 in
    let below = least-below t b o c least.0 still least.4 in
    let d = cell_of e least.0 in
    let index : index_of e d ≡ least.0 = index-cell e least.0 in
    elim (cases_order least.0 (index_of e c)) [
      | inl same ↦
          absurd (differs (first-label t g o c first ∙ ap (λ (k : ℕ). Some (pos (1 + k))) (sym same) ∙ sym least.1))
      | inr order ↦
          let before : index_of e d < index_of e c =
          elim order [ inl less ↦ omega (arith, less, index) | inr more ↦ absurd (omega (arith, more, below)) ] in
          let led = connected-led t b o d least.3 in
          elim (led-split e t x g.values b.values (was-high t g x v held) o led.0 d led.1) [
            | inl all ↦ absurd (omega (arith, before, first.first d (led-connected t g o led.0 d all)))
            | inr found ↦ (d, before, found)
          ]
    ]

pub rim_exactly-matter : RimCellsOfRegionsMatter
rim_exactly-matter t s inputs o x c is known first apart =
    let change = changed-of t s inputs x is known.work in
    let g = input_at inputs 0 in
    let e = g.extent in
    let held : holds e x ≡ true = ap (λ (d : Extent). holds d x) change.extent ∙ known.there in
    let near = (rim-supports t inputs o x (connected-both_high t g o c first.inside).1).0
    (sym (ap (λ (p : Op). supports p inputs 0 o x) is) ∙ known.supports) in
    let beside : are_neighbours e near.0 x ≡ true =
    elim near.2 [
      | inl same ↦
          absurd (true≢false (sym near.1 ∙ ap (is_connected t g o) same ∙ apart))
      | inr next ↦ next
    ] in
    let low : is_high t g x ≡ false =
    false_from_ne_true (is_high t g x)
    (λ high. true≢false (sym (component-closed t g o near.0 x near.1 held high beside) ∙ apart)) in (
      λ joins same.
          joined-differs t g o x c joins.0 first
          (raised-joins t g o x near.0 joins.0 held low near.1 beside joins.2) joins.1
          (labels-told t s inputs o x (Some t) change same),
      λ matters.
          joined-before t g o x c matters.0 first held low
          (λ same. matters.2 (labels-same t s inputs o x matters.0 change same)),
    )

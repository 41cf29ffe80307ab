-- What follows of the kinds of output cells: cells of one kind have one lineage, or one payload.
--
-- The key idea: the least index of a component is that of a cell of it, and the component of a cell is that of each of
-- its cells. So two components with one least index are one.
use Rattle.std.proofs.Common.{inl, inr, true≢false, ◌≡◌, ℕ, zero, suc, ◌+◌, ◌<◌, ◌≤◌, ◌==◌, ℤ, Bool}
use Rattle.std.proofs.Common.{true, false, ◌&&◌, List, [], ◌∷◌, Option, Some, None, Ok, refl, sym, ap, subst}
use Rattle.std.proofs.Common.{◌∙◌, arith}
use Rattle.std.specs.List.{filter, list_any, range_with_len}
use Rattle.std.proofs.lemmas.Bool.{cases_Bool, and_parts, false_from_ne_true}
use Rattle.sz_cells.specs.declared.Cell.{Cell}
use Rattle.sz_cells.specs.Extent.{Extent, size_of, holds, index_of, cell_of}
use Rattle.sz_cells.specs.Cells.{Cells, has}
use Rattle.sz_spec.specs.declared.op.Op.{Op}
use Rattle.sz_spec.specs.declared.op.Op.TheVariants.{Lookup, Regions, Clean}
use Rattle.sz_spec.specs.Values.{Grid, input_at, extent_at}
use Rattle.sz_spec.specs.Shapes.{Site, shape_of}
use Rattle.sz_spec.specs.Lineage.{related}
use Rattle.sz_spec.specs.Payloads.{payload_of}
use Rattle.sz_spec.specs.Work.{IsAtWork}
use Rattle.sz_spec.specs.Operators.Lookup.{match_of}
use Rattle.sz_spec.specs.Operators.Regions.{is_high, is_connected, component_of}
use Rattle.sz_spec.specs.Operators.Clean.{is_hot}
use Rattle.sz_spec.proofs.Components.{component-indexes, component-same, connected-both_high, connected-self}
use Rattle.sz_spec.proofs.PayloadLineage.{extent-of_site}
use Rattle.sz_frame.specs.Groups.{least_of, kind_of, lineage_kind, payload_kind}

-- ---- components

-- the least number of a range that passes does pass
least-passes : (p : ℕ → Bool) (a n k : ℕ) → least_of (filter p (range_with_len a n)) ≡ Some k → p k ≡ true
least-passes p a zero k is = cc is
least-passes p a (suc n) k is =
    elim (cases_Bool (p a)) [
      | inl passes ↦ let first = rw passes at is in let same : a ≡ k = cc in ap p (sym same) ∙ passes
      | inr fails ↦ least-passes p (a + 1) n k (rw fails at is)
    ]

-- the cell of the least index of a component is connected to each of its cells
least-connected : (t : ℤ) (g : Grid) (o : Cell) (k : ℕ) → least_of (component_of t g o).indexes ≡ Some k
    → is_connected t g o (cell_of g.extent k) ≡ true
least-connected t g o k is =
    least-passes (λ i. is_connected t g o (cell_of g.extent i)) 0 (size_of g.extent) k
    (ap least_of (sym (component-indexes t g o)) ∙ is)

-- two components with one least index are one
one-component : (t : ℤ) (g : Grid) (o p : Cell) (k : ℕ) → least_of (component_of t g o).indexes ≡ Some k
    → least_of (component_of t g p).indexes ≡ Some k → component_of t g o ≡ component_of t g p
one-component t g o p k first second =
    let c = cell_of g.extent k in
    sym (component-same t g o c (least-connected t g o k first))
    ∙ component-same t g p c (least-connected t g p k second)

-- a cell whose component has a least index is high
some-high : (t : ℤ) (g : Grid) (o : Cell) (k : ℕ) → least_of (component_of t g o).indexes ≡ Some k
    → is_high t g o ≡ true
some-high t g o k is = (connected-both_high t g o (cell_of g.extent k) (least-connected t g o k is)).1

-- a cell of the array whose component has none is not
least-none : (ks : List ℕ) → least_of ks ≡ None → ks ≡ []
least-none [] is = refl
least-none (k ∷ ks) is = cc is

none-low : (t : ℤ) (g : Grid) (o : Cell) → holds g.extent o ≡ true → least_of (component_of t g o).indexes ≡ None
    → is_high t g o ≡ false
none-low t g o held none =
    let c = component_of t g o in
    false_from_ne_true (is_high t g o)
    (λ high.
    let there = and_parts (holds c.extent o) (list_any (λ k. k == index_of c.extent o) c.indexes)
    (connected-self t g o held high) in
    true≢false (sym there.1 ∙ ap (λ (ks : List ℕ). list_any (λ k. k == index_of c.extent o) ks)
    (least-none c.indexes none)))

-- ---- lineage

-- cells of one lineage kind are related to the same cells of each input
pub lineage-same : (op : Op) (inputs : List Grid) (i : ℕ) (o p x : Cell) (n : ℕ) → lineage_kind op inputs o ≡ Some n
    → lineage_kind op inputs p ≡ Some n → related op inputs i o x ≡ related op inputs i p x
lineage-same (Regions t) inputs i o p x n first second =
    let g = input_at inputs 0 in
    rw (some-high t g o n first, some-high t g p n second)
    (ap (λ (c : Cells). (i == 0) && has c x) (one-component t g o p n first second))
lineage-same _ inputs i o p x n first second = (cc)

-- ---- payloads

one-kind : (a b : Option ℕ) → kind_of a ≡ kind_of b → a ≡ b
one-kind None None same = refl
one-kind None (Some k) same = absurd (omega arith)
one-kind (Some j) None same = absurd (omega arith)
one-kind (Some j) (Some k) same = let is : j ≡ k = omega arith in ap (λ (i : ℕ). Some i) is

same-kind : (a b : Option ℕ) (n : ℕ) → Some (kind_of a) ≡ Some n → Some (kind_of b) ≡ Some n → a ≡ b
same-kind a b n first second =
    let one : kind_of a ≡ n = cc first in
    let two : kind_of b ≡ n = cc second in
    one-kind a b (one ∙ sym two)

region-payload : (t : ℤ) (inputs : List Grid) (o p : Cell) (least : Option ℕ)
    → holds (input_at inputs 0).extent o ≡ true → holds (input_at inputs 0).extent p ≡ true
    → least_of (component_of t (input_at inputs 0) o).indexes ≡ least
    → least_of (component_of t (input_at inputs 0) p).indexes ≡ least
    → payload_of (Regions t) inputs o ≡ payload_of (Regions t) inputs p
region-payload t inputs o p None held also first second =
    let g = input_at inputs 0 in rw (none-low t g o held first, none-low t g p also second) refl
region-payload t inputs o p (Some k) held also first second =
    let g = input_at inputs 0 in
    rw (some-high t g o k first, some-high t g p k second, one-component t g o p k first second) refl

payload-of : (op : Op) (inputs : List Grid) (o p : Cell) (n : ℕ)
    → ((t : ℤ) → op ≡ Regions t → (holds (input_at inputs 0).extent o ≡ true)
    × (holds (input_at inputs 0).extent p ≡ true))
    → payload_kind op inputs o ≡ Some n → payload_kind op inputs p ≡ Some n
    → payload_of op inputs o ≡ payload_of op inputs p
payload-of Lookup inputs o p n held first second =
    let a = match_of (input_at inputs 0) (input_at inputs 1) in rw (same-kind (a o) (a p) n first second) refl
payload-of (Regions t) inputs o p n held first second =
    let g = input_at inputs 0 in
    let same = same-kind (least_of (component_of t g o).indexes) (least_of (component_of t g p).indexes) n first
    second in
    let there = held t refl in
    region-payload t inputs o p (least_of (component_of t g p).indexes) there.0 there.1 same refl
payload-of (Clean t) inputs o p n held first second =
    let g = input_at inputs 0 in
    elim (cases_Bool (is_hot t g o)) [
      | inl hot ↦
          elim (cases_Bool (is_hot t g p)) [
            | inl also ↦ rw (hot, also) refl
            | inr cold ↦
                let one = rw hot at first in let two = rw cold at second in
                let here : 1 ≡ n = cc one in let there : 0 ≡ n = cc two in absurd (omega arith)
          ]
      | inr cold ↦
          elim (cases_Bool (is_hot t g p)) [
            | inl hot ↦
                let one = rw cold at first in let two = rw hot at second in
                let here : 0 ≡ n = cc one in let there : 1 ≡ n = cc two in absurd (omega arith)
            | inr also ↦ rw (cold, also) refl
          ]
    ]
payload-of _ inputs o p n held first second = (cc)

regions-shape : (s : Site) (t : ℤ) → s.op ≡ Regions t → shape_of s.op s.ins ≡ Ok s.out → extent_at s.ins 0 ≡ s.out
regions-shape s t is shape =
    let there : Ok (extent_at s.ins 0) ≡ Ok s.out = sym (ap (λ (op : Op). shape_of op s.ins) is) ∙ shape in cc there

-- cells of one payload kind have one payload
pub payload-same : (s : Site) (inputs : List Grid) (o p : Cell) (n : ℕ) → IsAtWork s inputs
    → holds s.out o ≡ true → holds s.out p ≡ true → payload_kind s.op inputs o ≡ Some n
    → payload_kind s.op inputs p ≡ Some n → payload_of s.op inputs o ≡ payload_of s.op inputs p
payload-same s inputs o p n work held also =
    payload-of s.op inputs o p n
    (λ t is.
    let shape : (input_at inputs 0).extent ≡ s.out = extent-of_site s inputs 0 work
    ∙ regions-shape s t is work.site.shape in
    (ap (λ (e : Extent). holds e o) shape ∙ held, ap (λ (e : Extent). holds e p) shape ∙ also))

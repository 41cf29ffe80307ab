-- What follows of the components of cells for the operator's values and its lineage.
use Rattle.std.proofs.Common.{◌≡◌, ℕ, ◌+◌, ◌<◌, ℤ, pos, Bool, true, false, ◌&&◌, ◌||◌, ◌==◌}
use Rattle.std.proofs.Common.{List, [], ◌∷◌, length, get_or, refl, sym, ap, ap₂, ◌∙◌, arith, inl, inr}
use Rattle.std.proofs.Common.{Some, None, Ok}
use Rattle.std.specs.List.{slice_get, list_any}
use Rattle.std.proofs.Math.Bool.{or-false}
use Rattle.std.proofs.lemmas.Bool.{and_parts, and_from, cases_Bool, true≢false, false_from_ne_true, eqb-true}
use Rattle.std.proofs.lemmas.List.FromFn.{length-map-range_with_len}
use Rattle.sz_cells.specs.declared.Cell.{Cell}
use Rattle.sz_cells.specs.declared.Run.{Run}
use Rattle.sz_cells.specs.Extent.{Extent, size_of, holds, index_of, cell_of}
use Rattle.sz_cells.specs.Cells.{Cells, is_same, has, any_cell, cells_where, with_those, named_in}
use Rattle.sz_cells.specs.SetBytes.{set_bytes}
use Rattle.sz_cells.specs.Rising.{AreRising}
use Rattle.sz_cells.specs.Runs.{before_runs, runs_of}
use Rattle.sz_cells.proofs.Sets.{cell-index, index-below, cells_where-ext, any_cell-true, any_cell-from}
use Rattle.sz_cells.proofs.Sets.{any_cell-same_turned, same_truth, is_same-from, is_same-true}
use Rattle.sz_frame.proofs.Added.{with-ext}
use Rattle.sz_frame.specs.Images.{related_cells}
use Rattle.sz_spec.specs.declared.op.Op.{Op}
use Rattle.sz_spec.specs.declared.op.Op.TheVariants.{Regions}
use Rattle.sz_spec.specs.Values.{Grid, input_at, extent_at}
use Rattle.sz_spec.specs.Shapes.{Site, IsSite, shape_of, arity}
use Rattle.sz_spec.specs.Lineage.{related}
use Rattle.sz_spec.specs.Evaluation.{value_of}
use Rattle.sz_spec.specs.Payloads.{payload_of, overrides}
use Rattle.sz_spec.specs.Operators.Regions.{is_high, is_connected, component_of, label_of, labelled_at}
use Rattle.sz_spec.proofs.Components.{component-made, connected-self}
use Rattle.sz_spec.proofs.PayloadLineage.{extent-of_input}
use Rattle.sz_spec.specs.Work.{IsAtWork}
use Rattle.sz_ops_region.specs.declared.components.Part.{Part}
use Rattle.sz_ops_region.specs.declared.components.Part.TheVariants.{Alone, Shared}
use Rattle.sz_ops_region.specs.Parts.{IsPartAt}
use Rattle.sz_ops_region.specs.Regions.{components_of}
use Rattle.sz_ops_region.specs.Tracing.{first_index}
use Rattle.sz_ops_region.proofs.Sets.{low-component, range-at}

-- ---- labels

-- the first run begins at the first index
before-first : (k : ℕ) (runs : List Run) (r : Run) → slice_get (before_runs k runs) 0 ≡ Some r → r.first ≡ k
before-first k [] r is = let first : record { first = k; last = k } ≡ r = cc is in sym (ap (λ (x : Run). x.first) first)
before-first k (s ∷ runs) r is =
    elim (cases_Bool (s.first == k + 1)) [
      | inl touch ↦
          let there = rw touch at is in
          let first : record { first = k; last = s.last } ≡ r = cc there in sym (ap (λ (x : Run). x.first) first)
      | inr apart ↦
          let there = rw apart at is in
          let first : record { first = k; last = k } ≡ r = cc there in sym (ap (λ (x : Run). x.first) first)
    ]

before-some : (k : ℕ) (runs : List Run) → slice_get (before_runs k runs) 0 ≡ None → ⊥
before-some k [] is = cc is
before-some k (s ∷ runs) is =
    elim (cases_Bool (s.first == k + 1)) [
      | inl touch ↦ let there = rw touch at is in cc there
      | inr apart ↦ let there = rw apart at is in cc there
    ]

-- the label of cells is 1 plus the first index
pub label-first : (xs : List ℕ) → 0 < length xs → label_of xs ≡ pos (1 + first_index xs)
label-first [] some = absurd (omega arith)
label-first (k ∷ ks) some = refl

-- which is below the bound of all
pub first-within : (n : ℕ) (xs : List ℕ) → AreRising 0 n xs → 0 < length xs → first_index xs < n
first-within n [] rising some = absurd (omega arith)
first-within n (k ∷ ks) rising some = rising.1

pub index-some : (xs : List ℕ) (r : Run) → slice_get (runs_of xs) 0 ≡ Some r → first_index xs ≡ r.first
index-some [] r is = cc is
index-some (k ∷ ks) r is = sym (before-first k (runs_of ks) r is)

pub index-none : (xs : List ℕ) → slice_get (runs_of xs) 0 ≡ None → first_index xs ≡ 0
index-none [] is = refl
index-none (k ∷ ks) is = absurd (before-some k (runs_of ks) is)

-- ---- components of cells

-- there is one for each cell
pub aid-length : (t : ℤ) (g : Grid) → length (components_of t g) ≡ size_of g.extent
aid-length t g = length-map-range_with_len (λ k. component_of t g (cell_of g.extent k)) 0 (size_of g.extent)

-- that of a cell
pub aid-at : (t : ℤ) (g : Grid) (o : Cell) (d : Cells) → holds g.extent o ≡ true
    → get_or (components_of t g) (index_of g.extent o) d ≡ component_of t g o
aid-at t g o d held =
    let e = g.extent in
    range-at (λ k. component_of t g (cell_of e k)) (index_of e o) 0 (size_of e) d (index-below e o held)
    ∙ ap (λ (k : ℕ). component_of t g (cell_of e k)) (omega arith)
    ∙ ap (component_of t g) (cell-index e o held)

-- a component with a cell is that of a high cell, and one without is not
pub full-high : (t : ℤ) (g : Grid) (o : Cell) → 0 < length (component_of t g o).indexes
    → is_high t g o ≡ true
full-high t g o some =
    elim (cases_Bool (is_high t g o)) [
      | inl high ↦ high
      | inr low ↦ absurd (omega (arith, ap (λ (s : Cells). length s.indexes) (low-component t g o low)))
    ]

pub none-low : (t : ℤ) (g : Grid) (o : Cell) → holds g.extent o ≡ true
    → (component_of t g o).indexes ≡ [] → is_high t g o ≡ false
none-low t g o held none =
    false_from_ne_true (is_high t g o)
    (λ high.
    let there = and_parts (holds (component_of t g o).extent o)
    (list_any (λ k. k == index_of (component_of t g o).extent o) (component_of t g o).indexes)
    (connected-self t g o held high) in
    true≢false (sym there.1
    ∙ ap (λ (ks : List ℕ). list_any (λ k. k == index_of (component_of t g o).extent o) ks) none))

-- a part has a cell
pub part-full : (k : ℕ) (p : Part) (cells : Cells) → IsPartAt k p cells → 0 < length cells.indexes
part-full k Alone cells is = omega (arith, ap (λ (xs : List ℕ). length xs) is)
part-full k (Shared component) cells is = is.1

-- ---- the operator

-- its output has the shape of its input
pub one-shape : (s : Site) (t : ℤ) → s.op ≡ Regions t → shape_of s.op s.ins ≡ Ok s.out
    → extent_at s.ins 0 ≡ s.out
one-shape s t is shape =
    let there : Ok (extent_at s.ins 0) ≡ Ok s.out = sym (ap (λ (op : Op). shape_of op s.ins) is) ∙ shape in cc there

pub grid-shape : (s : Site) (inputs : List Grid) (t : ℤ) → s.op ≡ Regions t → IsAtWork s inputs
    → (input_at inputs 0).extent ≡ s.out
grid-shape s inputs t is work =
    sym (extent-of_input inputs 0) ∙ ap (λ (ins : List Extent). extent_at ins 0) work.shapes
    ∙ one-shape s t is work.site.shape

-- it has one input
pub one-input : (s : Site) (t : ℤ) (i : ℕ) → s.op ≡ Regions t → IsSite s → i < length s.ins → i ≡ 0
one-input s t i is site few = omega (arith, few, site.arity, ap arity is)

-- a high cell is related to the cells that are connected to it, any other to itself
pub related-high : (s : Site) (inputs : List Grid) (t : ℤ) (i : ℕ) (o x : Cell) → s.op ≡ Regions t → i ≡ 0
    → is_high t (input_at inputs 0) o ≡ true → related s.op inputs i o x ≡ is_connected t (input_at inputs 0) o x
related-high s inputs t i o x is first high = rw (is, first, high) refl

pub related-low : (s : Site) (inputs : List Grid) (t : ℤ) (i : ℕ) (o x : Cell) → s.op ≡ Regions t → i ≡ 0
    → is_high t (input_at inputs 0) o ≡ false → related s.op inputs i o x ≡ is_same x o
related-low s inputs t i o x is first low = rw (is, first, low) refl

-- as is a high cell by itself
related-alone : (s : Site) (inputs : List Grid) (t : ℤ) (o x : Cell) → s.op ≡ Regions t
    → holds (input_at inputs 0).extent o ≡ true → is_high t (input_at inputs 0) o ≡ true
    → (component_of t (input_at inputs 0) o).indexes ≡ index_of (input_at inputs 0).extent o ∷ []
    → related s.op inputs 0 o x ≡ is_same x o
related-alone s inputs t o x is held high only =
    let g = input_at inputs 0 in
    let e = g.extent in
    let extent : (component_of t g o).extent ≡ e = ap (λ (z : Cells). z.extent) (component-made t g o) in
    related-high s inputs t 0 o x is refl high
    ∙ same_truth (is_connected t g o x) (is_same x o)
    (λ joined.
    let parts = and_parts (holds (component_of t g o).extent x)
    (list_any (λ k. k == index_of (component_of t g o).extent x) (component_of t g o).indexes) joined in
    let inside : holds e x ≡ true = sym (ap (λ (f : Extent). holds f x) extent) ∙ parts.0 in
    let found : (index_of e o == index_of e x) ≡ true =
    sym (or-false (index_of e o == index_of e x))
    ∙ sym (ap₂ (λ (f : Extent) (ks : List ℕ). list_any (λ k. k == index_of f x) ks) extent only) ∙ parts.1 in
    is_same-from x o
    (sym (cell-index e x inside) ∙ ap (cell_of e) (sym (eqb-true (index_of e o) (index_of e x) found))
    ∙ cell-index e o held))
    (λ same. ap (is_connected t g o) (is_same-true x o same) ∙ connected-self t g o held high)

-- where a cell is related to itself alone as a cell of its one input, it is so of whatever input
itself-at : (s : Site) (inputs : List Grid) (i : ℕ) (o x : Cell) → i ≡ 0
    → ((y : Cell) → related s.op inputs 0 o y ≡ is_same y o) → related s.op inputs i o x ≡ is_same x o
itself-at s inputs i o x first itself = ap (λ (j : ℕ). related s.op inputs j o x) first ∙ itself x

-- its value, its payload and what a composite store keeps
pub value-is : (op : Op) (inputs : List Grid) (t : ℤ) (o : Cell) → op ≡ Regions t
    → value_of op inputs o ≡ labelled_at t (input_at inputs 0) o
value-is op inputs t o is = ap (λ (p : Op). value_of p inputs o) is

pub payload-high : (op : Op) (inputs : List Grid) (t : ℤ) (o : Cell) → op ≡ Regions t
    → is_high t (input_at inputs 0) o ≡ true
    → payload_of op inputs o ≡ set_bytes (component_of t (input_at inputs 0) o)
payload-high op inputs t o is high = rw (is, high) refl

pub payload-low : (op : Op) (inputs : List Grid) (t : ℤ) (o : Cell) → op ≡ Regions t
    → is_high t (input_at inputs 0) o ≡ false → payload_of op inputs o ≡ []
payload-low op inputs t o is low = rw (is, low) refl

pub overrides-is : (op : Op) (inputs : List Grid) (t : ℤ) (o : Cell) → op ≡ Regions t
    → overrides op inputs o ≡ is_high t (input_at inputs 0) o
overrides-is op inputs t o is = ap (λ (p : Op). overrides p inputs o) is

-- ---- what a cell adds, meets and is related to

-- tests that agree find alike
list_any-ext : (p q : ℕ → Bool) → ((k : ℕ) → p k ≡ q k) → (ks : List ℕ) → list_any p ks ≡ list_any q ks
list_any-ext p q same [] = refl
list_any-ext p q same (k ∷ ks) = ap₂ (λ (a b : Bool). a || b) (same k) (list_any-ext p q same ks)

-- the cells of the component of a high cell are added, and of any other the cell
pub adds-high : (s : Site) (inputs : List Grid) (t : ℤ) (i : ℕ) (o : Cell) (to : Cells) → s.op ≡ Regions t
    → i ≡ 0 → is_high t (input_at inputs 0) o ≡ true
    → with_those to (is_connected t (input_at inputs 0) o) ≡ with_those to (related s.op inputs i o)
adds-high s inputs t i o to is first high =
    with-ext to (is_connected t (input_at inputs 0) o) (related s.op inputs i o)
    (λ x held. sym (related-high s inputs t i o x is first high))

pub adds-itself : (s : Site) (inputs : List Grid) (i : ℕ) (o : Cell) (to : Cells) → i ≡ 0
    → ((x : Cell) → related s.op inputs 0 o x ≡ is_same x o)
    → with_those to (λ x. is_same x o) ≡ with_those to (related s.op inputs i o)
adds-itself s inputs i o to first itself =
    with-ext to (λ x. is_same x o) (related s.op inputs i o) (λ x held. sym (itself-at s inputs i o x first itself))

pub meets-high : (s : Site) (inputs : List Grid) (t : ℤ) (i : ℕ) (o : Cell) (from : Cells) → s.op ≡ Regions t
    → i ≡ 0 → is_high t (input_at inputs 0) o ≡ true
    → any_cell (has (component_of t (input_at inputs 0) o)) from ≡ any_cell (related s.op inputs i o) from
meets-high s inputs t i o from is first high =
    list_any-ext (λ k. is_connected t (input_at inputs 0) o (cell_of from.extent k))
    (λ k. related s.op inputs i o (cell_of from.extent k))
    (λ k. sym (related-high s inputs t i o (cell_of from.extent k) is first high)) from.indexes

pub meets-itself : (s : Site) (inputs : List Grid) (i : ℕ) (o : Cell) (from : Cells) (e : Extent)
    → i ≡ 0 → ((x : Cell) → related s.op inputs 0 o x ≡ is_same x o)
    → from ≡ cells_where e (has from) → holds e o ≡ true
    → has from o ≡ any_cell (related s.op inputs i o) from
meets-itself s inputs i o from e first itself own held =
    sym (any_cell-same_turned e (has from) o held)
    ∙ ap (any_cell (λ x. is_same x o)) (sym own)
    ∙ list_any-ext (λ k. is_same (cell_of from.extent k) o) (λ k. related s.op inputs i o (cell_of from.extent k))
    (λ k. sym (itself-at s inputs i o (cell_of from.extent k) first itself)) from.indexes

pub set-high : (s : Site) (inputs : List Grid) (t : ℤ) (i : ℕ) (o : Cell) → s.op ≡ Regions t
    → i ≡ 0 → IsAtWork s inputs → is_high t (input_at inputs 0) o ≡ true
    → component_of t (input_at inputs 0) o ≡ related_cells s inputs i o
set-high s inputs t i o is first work high =
    let g = input_at inputs 0 in
    component-made t g o
    ∙ cells_where-ext g.extent (is_connected t g o) (related s.op inputs i o)
    (λ x held. sym (related-high s inputs t i o x is first high))
    ∙ ap (λ (e : Extent). cells_where e (related s.op inputs i o)) (grid-shape s inputs t is work
    ∙ sym (one-shape s t is work.site.shape) ∙ ap (extent_at s.ins) (sym first))

pub set-itself : (s : Site) (inputs : List Grid) (t : ℤ) (i : ℕ) (o : Cell) → s.op ≡ Regions t
    → i ≡ 0 → IsAtWork s inputs → ((x : Cell) → related s.op inputs 0 o x ≡ is_same x o)
    → named_in s.out (o ∷ []) ≡ related_cells s inputs i o
set-itself s inputs t i o is first work itself =
    cells_where-ext s.out (λ x. list_any (is_same x) (o ∷ [])) (related s.op inputs i o)
    (λ x held. or-false (is_same x o) ∙ sym (itself-at s inputs i o x first itself))
    ∙ ap (λ (e : Extent). cells_where e (related s.op inputs i o)) (sym (one-shape s t is work.site.shape)
    ∙ ap (extent_at s.ins) (sym first))

-- a cell by itself is related to itself alone, and the set of it is its component
pub alone-itself : (s : Site) (inputs : List Grid) (t : ℤ) (o x : Cell) → s.op ≡ Regions t → IsAtWork s inputs
    → holds s.out o ≡ true → is_high t (input_at inputs 0) o ≡ true
    → (component_of t (input_at inputs 0) o).indexes ≡ index_of s.out o ∷ []
    → related s.op inputs 0 o x ≡ is_same x o
alone-itself s inputs t o x is work held high only =
    let shape = grid-shape s inputs t is work in
    related-alone s inputs t o x is (ap (λ (e : Extent). holds e o) shape ∙ held) high
    (only ∙ ap (λ (e : Extent). index_of e o ∷ []) (sym shape))

pub alone-set : (s : Site) (inputs : List Grid) (t : ℤ) (o : Cell) → s.op ≡ Regions t → IsAtWork s inputs
    → holds s.out o ≡ true → is_high t (input_at inputs 0) o ≡ true
    → (component_of t (input_at inputs 0) o).indexes ≡ index_of s.out o ∷ []
    → named_in s.out (o ∷ []) ≡ component_of t (input_at inputs 0) o
alone-set s inputs t o is work held high only =
    set-itself s inputs t 0 o is refl work (λ x. alone-itself s inputs t o x is work held high only)
    ∙ sym (set-high s inputs t 0 o is refl work high)

-- some cell is in both of two sets
pub both-one : (e : Extent) (set from : Cells) (c : Cell) → from ≡ cells_where e (has from) → holds e c ≡ true
    → has from c ≡ true → has set c ≡ true → any_cell (has set) from ≡ true
both-one e set from c own held there also =
    ap (any_cell (has set)) own ∙ any_cell-from e (has from) (has set) c held there also

pub both-none : (e : Extent) (set from : Cells) → from ≡ cells_where e (has from)
    → ((k : ℕ) → k < size_of e → (has from (cell_of e k) && has set (cell_of e k)) ≡ false)
    → any_cell (has set) from ≡ false
both-none e set from own none =
    false_from_ne_true (any_cell (has set) from)
    (λ found.
    let one = any_cell-true e (has from) (has set) (sym (ap (any_cell (has set)) own) ∙ found) in
    let back = cell-index e one.0 one.1 in
    let both : (has from one.0 && has set one.0) ≡ true = and_from _ _ one.2 one.3 in
    true≢false (sym both ∙ ap (λ (c : Cell). has from c && has set c) (sym back)
    ∙ none (index_of e one.0) (index-below e one.0 one.1)))

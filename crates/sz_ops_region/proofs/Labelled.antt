-- What follows of the labels that are kept for cells.
--
-- The key idea: cells have one label exactly where they are connected, so the cells of a label are a component; and
-- the first cell of a label is the one that the label names, so the label of the component is the word itself.
use Rattle.std.proofs.Common.{◌≡◌, ℕ, zero, suc, ◌+◌, ◌-◌, ◌<◌, ◌≤◌, ℤ, pos, Bool, true, false, ◌&&◌, ◌==◌}
use Rattle.std.proofs.Common.{List, [], ◌∷◌, length, map, get_or, refl, sym, ap, ap₂, ◌∙◌, arith, inl, inr}
use Rattle.std.proofs.Common.{Some, Option, lt-ltb}
use Rattle.std.specs.Prelude.{nat_lt}
use Rattle.std.specs.List.{range_with_len, filter}
use Rattle.std.proofs.lemmas.Bool.{and_parts, and_from, eqb-true, eq-eqb, ltb-true}
use Rattle.std.proofs.lemmas.Bool.{false_from_ne_true}
use Rattle.std.proofs.lemmas.Bool.Decides.{eqb_tells}
use Rattle.std.proofs.lemmas.Simd.{map-map}
use Rattle.std.proofs.lemmas.List.FromFn.{length-map-range_with_len, get_or-map-range_with_len}
use Rattle.sz_cells.specs.declared.Cell.{Cell}
use Rattle.sz_cells.specs.Extent.{Extent, size_of, holds, index_of, cell_of}
use Rattle.sz_cells.specs.Cells.{Cells}
use Rattle.sz_cells.proofs.Rising.{filter-false}
use Rattle.sz_cells.proofs.Sets.{filter-range_ext, same_truth, index-below}
use Rattle.sz_spec.specs.declared.op.Op.{Op}
use Rattle.sz_spec.specs.declared.op.Op.TheVariants.{Regions}
use Rattle.sz_spec.specs.Values.{Grid, input_at}
use Rattle.sz_spec.specs.Shapes.{Site}
use Rattle.sz_spec.specs.Evaluation.{value_of}
use Rattle.sz_spec.specs.Work.{IsAtWork}
use Rattle.sz_spec.specs.Operators.Regions.{is_connected, component_of, label_of, labelled_at}
use Rattle.sz_spec.proofs.Components.{component-made, connected-both_high}
use Rattle.sz_ops_region.specs.Numbers.{AreFirsts, AreLabels, joined_at}
use Rattle.sz_frame.specs.Walks.{values_before}
use Rattle.sz_ops_region.specs.Regions.{components_of, aid_of}
use Rattle.sz_ops_region.specs.Labelled.{is_one_label, set_labelled, sets_labelled}
use Rattle.sz_ops_region.proofs.Sets.{map-range_ext}
use Rattle.sz_ops_region.proofs.Labels.{aid-length, aid-at, grid-shape, value-is}

-- ---- components

-- the cells with the label of a cell are its component
set-labelled : (t : ℤ) (g : Grid) (words : List ℕ) (k : ℕ) → AreLabels t g words → k < size_of g.extent
    → set_labelled g.extent words k ≡ component_of t g (cell_of g.extent k)
set-labelled t g words k are below =
    let e = g.extent in
    let word = get_or words k 0 in
    let make : List ℕ → Cells = λ xs. record { extent = e; indexes = xs } in
    ap make (filter-range_ext (λ l. is_one_label word (get_or words l 0))
    (λ l. is_connected t g (cell_of e k) (cell_of e l)) 0 (size_of e)
    (λ l low under. same_truth (is_one_label word (get_or words l 0)) (joined_at t g k l)
    (λ there.
    let both = and_parts (nat_lt 0 word) (word == get_or words l 0) there in
    are.one k l (ltb-true 0 word both.0) (eqb-true word (get_or words l 0) both.1))
    (λ joined.
    let high = connected-both_high t g (cell_of e k) (cell_of e l) joined in
    let inside : l < size_of e = omega (arith, under) in
    and_from _ _ (lt-ltb 0 word (are.all k below high.1))
    (eq-eqb word (get_or words l 0) (are.joined k l below inside joined)))))
    ∙ sym (component-made t g (cell_of e k))

-- so all of them are
pub labelled-right : (t : ℤ) (g : Grid) (words : List ℕ) → AreLabels t g words
    → sets_labelled g.extent words ≡ components_of t g
labelled-right t g words are =
    map-range_ext (set_labelled g.extent words) (λ k. component_of t g (cell_of g.extent k)) 0 (size_of g.extent)
    (λ k low below. set-labelled t g words k are (omega arith))

-- ---- labels

-- the label of what passes a test is that of the first that does
label-least : (p : ℕ → Bool) (r a n : ℕ) → a ≤ r → r < a + n → p r ≡ true
    → ((j : ℕ) → a ≤ j → j < r → p j ≡ false) → label_of (filter p (range_with_len a n)) ≡ pos (1 + r)
label-least p r a zero low high passes before = absurd (omega arith)
label-least p r a (suc n) low high passes before =
    elim (eqb_tells a r) [
      | inl at ↦
          let here : p a ≡ true = ap p at.1 ∙ passes in
          rw here (ap (λ (k : ℕ). pos (1 + k)) at.1)
      | inr apart ↦
          let under : a < r = omega (arith, apart.1) in
          let fails : p a ≡ false = before a (omega arith) under in
          rw fails
          (label-least p r (a + 1) n (omega arith) (omega arith) passes (λ j more less. before j (omega arith) less))
    ]

-- the label of the cells of a label is the word
label-word : (e : Extent) (words : List ℕ) (k : ℕ) → AreFirsts words → k < size_of e
    → label_of (set_labelled e words k).indexes ≡ pos (get_or words k 0)
label-word e words k firsts below =
    let word = get_or words k 0 in
    let n = size_of e in
    elim (eqb_tells word 0) [
      | inl none ↦
          let never : nat_lt 0 word ≡ false = ap (nat_lt 0) none.1 in
          ap (λ (xs : List ℕ). label_of xs)
          (filter-range_ext (λ l. is_one_label word (get_or words l 0)) (λ l. false) 0 n
          (λ l low under. ap (λ (b : Bool). b && (word == get_or words l 0)) never)
          ∙ filter-false (range_with_len 0 n))
          ∙ ap (λ (w : ℕ). pos w) (sym none.1)
      | inr some ↦
          let r = word - 1 in
          let is : word ≡ 1 + r = omega (arith, some.1) in
          let first = firsts k r is in
          let own : is_one_label word (get_or words r 0) ≡ true =
          and_from _ _ (lt-ltb 0 word (omega (arith, some.1))) (eq-eqb word (get_or words r 0) (is ∙ sym first.1)) in
          label-least (λ l. is_one_label word (get_or words l 0)) r 0 n (omega arith)
          (omega (arith, first.0, below)) own
          (λ j more less.
          false_from_ne_true (is_one_label word (get_or words j 0))
          (λ there.
          let same = eqb-true word (get_or words j 0)
          (and_parts (nat_lt 0 word) (word == get_or words j 0) there).1 in
          absurd (omega (arith, less, (firsts j r (sym same ∙ is)).0))))
          ∙ ap (λ (w : ℕ). pos w) (sym is)
    ]

-- there is one for each cell
pub labelled-length : (e : Extent) (words : List ℕ) → length (sets_labelled e words) ≡ size_of e
labelled-length e words = length-map-range_with_len (set_labelled e words) 0 (size_of e)

-- the word of a cell is the label of its component
pub labelled-word : (e : Extent) (words : List ℕ) (k : ℕ) (d : Cells) → AreFirsts words → k < size_of e
    → pos (get_or words k 0) ≡ label_of (get_or (sets_labelled e words) k d).indexes
labelled-word e words k d firsts below =
    let same : 0 + k ≡ k = omega arith in
    sym (label-word e words k firsts below)
    ∙ ap (λ (s : Cells). label_of s.indexes)
    (sym (get_or-map-range_with_len (set_labelled e words) 0 (size_of e) k k d below same))

-- what a list has at its places, one after the other
listed : (words : List ℕ) (a : ℕ) (xs : List ℕ) → ((k : ℕ) → k < length xs → get_or xs k 0 ≡ get_or words (a + k) 0)
    → map (λ k. get_or words k 0) (range_with_len a (length xs)) ≡ xs
listed words a [] agree = refl
listed words a (x ∷ xs) agree =
    let here : get_or words a 0 ≡ x =
    ap (λ (k : ℕ). get_or words k 0) (omega arith) ∙ sym (agree 0 (omega arith)) in
    ap₂ (λ (y : ℕ) (ys : List ℕ). y ∷ ys) here
    (listed words (a + 1) xs
    (λ k below. agree (suc k) (omega arith) ∙ ap (λ (i : ℕ). get_or words i 0) (omega arith)))

-- the words of all cells as values are the labels of their components
pub labelled-words : (e : Extent) (words : List ℕ) → AreFirsts words → length words ≡ size_of e
    → map (λ w. Some (pos w)) words ≡ map (λ s. Some (label_of s.indexes)) (sets_labelled e words)
labelled-words e words firsts long =
    let n = size_of e in
    let value : ℕ → Option ℤ = λ w. Some (pos w) in
    let label : Cells → Option ℤ = λ s. Some (label_of s.indexes) in
    let all : map (λ k. get_or words k 0) (range_with_len 0 n) ≡ words =
    ap (λ (m : ℕ). map (λ k. get_or words k 0) (range_with_len 0 m)) (sym long)
    ∙ listed words 0 words (λ k below. ap (λ (i : ℕ). get_or words i 0) (omega arith)) in
    ap (λ (xs : List ℕ). map value xs) (sym all)
    ∙ map-map value (λ k. get_or words k 0) (range_with_len 0 n)
    ∙ map-range_ext (λ k. value (get_or words k 0)) (λ k. label (set_labelled e words k)) 0 n
    (λ k low below. ap (λ (z : ℤ). Some z) (sym (label-word e words k firsts (omega arith))))
    ∙ sym (map-map label (set_labelled e words) (range_with_len 0 n))

-- the labels of all components are the values of the operator
pub components-labels : (t : ℤ) (g : Grid) (sets : List Cells) → sets ≡ components_of t g
    → map (λ s. Some (label_of s.indexes)) sets
    ≡ map (λ k. labelled_at t g (cell_of g.extent k)) (range_with_len 0 (size_of g.extent))
components-labels t g sets is =
    ap (λ (xs : List Cells). map (λ s. Some (label_of s.indexes)) xs) is
    ∙ map-map (λ (s : Cells). Some (label_of s.indexes)) (λ k. component_of t g (cell_of g.extent k))
    (range_with_len 0 (size_of g.extent))

-- ---- what was prepared

-- it is the component of each cell
pub prepared-is : (s : Site) (inputs : List Grid) (t : ℤ) (sets aid : List Cells) → s.op ≡ Regions t
    → sets ≡ aid → aid ≡ aid_of s.op inputs → sets ≡ components_of t (input_at inputs 0)
prepared-is s inputs t sets aid is kept prepared = kept ∙ prepared ∙ ap (λ (op : Op). aid_of op inputs) is

-- so there is one for each cell of the output
pub prepared-within : (s : Site) (inputs : List Grid) (t : ℤ) (sets : List Cells) (o : Cell) → s.op ≡ Regions t
    → IsAtWork s inputs → sets ≡ components_of t (input_at inputs 0) → holds s.out o ≡ true
    → index_of s.out o < length sets
prepared-within s inputs t sets o is work found held =
    let g = input_at inputs 0 in
    omega (
      arith,
      ap (λ (xs : List Cells). length xs) found,
      aid-length t g,
      ap size_of (grid-shape s inputs t is work),
      index-below s.out o held,
    )

-- of which the label is the value
pub prepared-value : (s : Site) (inputs : List Grid) (t : ℤ) (sets : List Cells) (o : Cell) (d : Cells)
    → s.op ≡ Regions t → IsAtWork s inputs → sets ≡ components_of t (input_at inputs 0) → holds s.out o ≡ true
    → Some (label_of (get_or sets (index_of s.out o) d).indexes) ≡ value_of s.op inputs o
prepared-value s inputs t sets o d is work found held =
    let g = input_at inputs 0 in
    let shape = grid-shape s inputs t is work in
    let at : get_or sets (index_of s.out o) d ≡ component_of t g o =
    ap (λ (e : Extent). get_or sets (index_of e o) d) (sym shape)
    ∙ ap (λ (xs : List Cells). get_or xs (index_of g.extent o) d) found
    ∙ aid-at t g o d (ap (λ (e : Extent). holds e o) shape ∙ held) in
    ap (λ (x : Cells). Some (label_of x.indexes)) at ∙ sym (value-is s.op inputs t o is)

-- and all labels are all values
pub prepared-values : (s : Site) (inputs : List Grid) (t : ℤ) (sets : List Cells) → s.op ≡ Regions t
    → IsAtWork s inputs → sets ≡ components_of t (input_at inputs 0)
    → map (λ x. Some (label_of x.indexes)) sets ≡ values_before s inputs (size_of s.out)
prepared-values s inputs t sets is work found =
    let g = input_at inputs 0 in
    components-labels t g sets found
    ∙ ap (λ (e : Extent). map (λ k. labelled_at t g (cell_of e k)) (range_with_len 0 (size_of e)))
    (grid-shape s inputs t is work)
    ∙ ap (λ (op : Op). map (λ k. value_of op inputs (cell_of s.out k)) (range_with_len 0 (size_of s.out))) (sym is)

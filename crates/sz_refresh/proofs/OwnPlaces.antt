-- Sets that have every cell of their shape, and operators that relate each output cell to some cell of an input.
--
-- The key idea: a set of all cells reaches each output cell by the cell at its own place, or by one to which it is
-- mapped.
use Rattle.std.proofs.Common.{◌≡◌, ℕ, zero, suc, ◌+◌, ◌-◌, ◌*◌, ◌/◌, ◌%◌, ◌<◌, ◌≤◌, ℤ, Bool, true, false, ◌&&◌, ◌||◌}
use Rattle.std.proofs.Common.{◌==◌, not, nat_le, nat_lt, List, [], ◌∷◌, length, Ok, refl, sym, ap, subst, ◌∙◌}
use Rattle.std.proofs.Common.{arith, inl, inr, ltb-true, lt-ltb, le-leb, leb-true, eq-eqb, eqb-true, if◌then◌else◌}
use Rattle.std.specs.List.{list_any}
use Rattle.std.proofs.lemmas.Bool.{and_parts, and_from, cases_Bool, or_left, or_right}
use Rattle.sz_cells.specs.declared.Cell.{Cell}
use Rattle.sz_cells.specs.Extent.{Extent, is_extent, size_of, holds, index_of, cell_of, row_in, layer_of}
use Rattle.sz_cells.specs.Cells.{Cells, is_same, has, with_those}
use Rattle.sz_cells.specs.Rising.{AreRising}
use Rattle.sz_cells.proofs.Rising.{rising-length}
use Rattle.sz_cells.proofs.Sets.{index-below, cell-index, cell-held, row-held, cols-some, is_same-refl}
use Rattle.sz_frame.proofs.Added.{with-ext, out-at_work}
use Rattle.sz_spec.specs.declared.op.Op.{Op}
use Rattle.sz_spec.specs.declared.op.Op.TheVariants.{Transpose, Slice, Convolve, Block, Lookup, Regions, Clean}
use Rattle.sz_spec.specs.declared.op.Op.TheVariants.{FoldLayers, Add, Sub, Mul, Min, Max}
use Rattle.sz_spec.specs.declared.modes.Dir.TheVariants.{Back}
use Rattle.sz_spec.specs.Values.{Grid, input_at, extent_at, extents_of}
use Rattle.sz_spec.specs.Shapes.{Site, arity, shape_of, output_extent, has_right_parameters}
use Rattle.sz_spec.specs.Weights.{Weights, is_zero, tap_at}
use Rattle.sz_spec.specs.Lineage.{related, mapped_between}
use Rattle.sz_spec.specs.Operators.Convolve.{is_convolved, is_under}
use Rattle.sz_spec.specs.Operators.Regions.{is_high, is_connected}
use Rattle.sz_spec.specs.Operators.Clean.{is_hot, is_in_square}
use Rattle.sz_spec.specs.Work.{IsAtWork}
use Rattle.sz_spec.proofs.Components.{connected-self}
use Rattle.sz_spec.proofs.OutputShapes.{looked-up_shape, sliced-within, extent-right, output-right}
use Rattle.sz_ops_window.specs.Taps.{leads}
use Rattle.sz_ops_window.proofs.Taps.{led-all}
use Rattle.sz_ops_region.proofs.Labels.{grid-shape}
use Rattle.sz_refresh.specs.Changes.{reaches}
use Rattle.sz_refresh.specs.Whole.{middle_of, has_middle, reaches_all}
use Rattle.sz_refresh.proofs.Affected.{any-has, any-below}
use Rattle.sz_refresh.proofs.Covered.{IsMapped, block-mapped, layers-mapped, turned-mapped, slice-mapped}
use Rattle.sz_refresh.proofs.Names.{is_between}
use Rattle.sz_refresh.proofs.Squares.{square-self}

-- ---- all cells

-- as many rising numbers as there are from one to another are all of these
all-rise : (n a b k : ℕ) (xs : List ℕ) → a + n ≡ b → AreRising a b xs → length xs ≡ n → a ≤ k → k < b
    → list_any (λ x. x == k) xs ≡ true
all-rise n a b k [] sum rises long low high = absurd (omega arith)
all-rise zero a b k (x ∷ xs) sum rises long low high = absurd (omega arith)
all-rise (suc n) a b k (x ∷ xs) sum rises long low high =
    let rest : length xs ≤ b - (x + 1) = rising-length (b - (x + 1)) (x + 1) b xs (omega (arith, rises.1)) rises.2 in
    let first : x ≡ a = omega (arith, rest, rises.0, rises.1, long, sum) in
    elim (cases_Bool (x == k)) [
      | inl here ↦ or_left (x == k) (list_any (λ y. y == k) xs) here
      | inr other ↦
          let apart : x ≡ k → ⊥ = λ same. absurd (cc (sym (eq-eqb x k same) ∙ other)) in
          or_right (x == k) (list_any (λ y. y == k) xs)
          (all-rise n (x + 1) b k xs (omega (arith, first, sum)) rises.2 (omega (arith, long))
          (omega (arith, first, low, apart)) high)
    ]

pub whole-has : (set : Cells) → AreRising 0 (size_of set.extent) set.indexes
    → length set.indexes ≡ size_of set.extent → (c : Cell) → holds set.extent c ≡ true → has set c ≡ true
whole-has set rises long c held =
    and_from (holds set.extent c) (list_any (λ k. k == index_of set.extent c) set.indexes) held
    (all-rise (size_of set.extent) 0 (size_of set.extent) (index_of set.extent c) set.indexes (omega arith) rises long
    (omega arith) (index-below set.extent c held))

-- ---- the middle of a kernel

-- it lies on the cell on which the middle lies
itself-convolved : (e : Extent) (w : Weights) (o : Cell) → has_middle w ≡ true → is_convolved e w o o ≡ true
itself-convolved e w o known =
    let m : ℕ = middle_of w in
    let both = and_parts (nat_lt m (w.rows * w.cols)) (not (is_zero (tap_at w m).weight)) known in
    let low : m < w.rows * w.cols = ltb-true m (w.rows * w.cols) both.0 in
    let sheet : Extent = record { layers = 1; rows = w.rows; cols = w.cols } in
    let cell : Cell = record { row = w.rows / 2; col = w.cols / 2 } in
    let wide : 0 < w.cols = cols-some sheet m low in
    let tall = (row-held sheet (cell_of sheet m) (cell-held sheet m low)).0 in
    let held : holds sheet cell ≡ true =
    and_from (nat_lt (w.rows / 2) w.rows) (nat_lt (w.cols / 2) w.cols)
    (lt-ltb (w.rows / 2) w.rows (omega (arith, tall))) (lt-ltb (w.cols / 2) w.cols (omega (arith, wide))) in
    let place : cell_of sheet m ≡ cell = cell-index sheet cell held in
    let row : (row_in e o + w.rows / 2 == row_in e o + m / w.cols) ≡ true =
    eq-eqb (row_in e o + w.rows / 2) (row_in e o + m / w.cols)
    (ap (λ (c : Cell). row_in e o + c.row) (sym place)) in
    let col : (o.col + w.cols / 2 == o.col + m % w.cols) ≡ true =
    eq-eqb (o.col + w.cols / 2) (o.col + m % w.cols) (ap (λ (c : Cell). o.col + c.col) (sym place)) in
    let layer : (layer_of e o == layer_of e o) ≡ true = eq-eqb (layer_of e o) (layer_of e o) refl in
    let under : is_under e w o o (tap_at w m) ≡ true =
    and_from ((layer_of e o == layer_of e o) && (row_in e o + w.rows / 2 == row_in e o + m / w.cols))
    (o.col + w.cols / 2 == o.col + m % w.cols)
    (and_from (layer_of e o == layer_of e o) (row_in e o + w.rows / 2 == row_in e o + m / w.cols) layer row) col in
    sym (led-all Back e w o o)
    ∙ any-below (λ k. leads Back e w o k o) (w.rows * w.cols) m low
    (and_from (not (is_zero (tap_at w m).weight)) (is_under e w o o (tap_at w m)) both.1 under)

-- ---- operators

-- each output cell is related to the cell at its own place of input i
abbrev relates_itself : Op → ℕ → Bool
relates_itself (Convolve kernel) i = (i == 0) && has_middle kernel
relates_itself Lookup i = i == 0
relates_itself (Regions t) i = i == 0
relates_itself (Clean t) i = i == 0
relates_itself op i = false

-- where an operator relates each cell to the one at its own place, it does
itself : (op : Op) (inputs : List Grid) (i : ℕ) (o : Cell) → relates_itself op i ≡ true
    → ((t : ℤ) → op ≡ Regions t → holds (input_at inputs 0).extent o ≡ true) → related op inputs i o o ≡ true
itself (Convolve w) inputs i o known held =
    let both = and_parts (i == 0) (has_middle w) known in
    let e : Extent = extent_at (extents_of inputs) 0 in
    and_from (i == 0) (is_convolved e w o o) both.0 (itself-convolved e w o both.1)
itself Lookup inputs i o known held =
    or_left ((i == 0) && is_same o o) _ (and_from (i == 0) (is_same o o) known (is_same-refl o))
itself (Regions t) inputs i o known held =
    let g : Grid = input_at inputs 0 in
    let pick : Bool → Bool = λ b. if b then is_connected t g o o else is_same o o in
    and_from (i == 0) (pick (is_high t g o)) known
    (elim (cases_Bool (is_high t g o)) [
      | inl high ↦ ap pick high ∙ connected-self t g o (held t refl) high
      | inr low ↦ ap pick low ∙ is_same-refl o
    ])
itself (Clean t) inputs i o known held =
    let g : Grid = input_at inputs 0 in
    let pick : Bool → Bool = λ b. if b then is_in_square g.extent o o else is_same o o in
    and_from (i == 0) (pick (is_hot t g o)) known
    (elim (cases_Bool (is_hot t g o)) [
      | inl hot ↦ ap pick hot ∙ square-self g.extent o
      | inr cold ↦ ap pick cold ∙ is_same-refl o
    ])
itself op inputs i o known held = (cc)

-- and its input has the shape of its output
own-side : (op : Op) (ins : List Extent) (out : Extent) (i : ℕ) → relates_itself op i ≡ true
    → shape_of op ins ≡ Ok out → extent_at ins i ≡ out
own-side (Convolve w) ins out i known told =
    let first = eqb-true i 0 (and_parts (i == 0) (has_middle w) known).0 in
    let same : extent_at ins 0 ≡ out = (cc) in ap (extent_at ins) first ∙ same
own-side Lookup ins out i known told =
    ap (extent_at ins) (eqb-true i 0 known) ∙ (looked-up_shape ins out told).1
own-side (Regions t) ins out i known told =
    let same : extent_at ins 0 ≡ out = (cc) in ap (extent_at ins) (eqb-true i 0 known) ∙ same
own-side (Clean t) ins out i known told =
    let same : extent_at ins 0 ≡ out = (cc) in ap (extent_at ins) (eqb-true i 0 known) ∙ same
own-side op ins out i known told = (cc)

-- some cell of a shape is one of input i to which an output cell is related
record IsMet (op : Op) (inputs : List Grid) (i : ℕ) (e : Extent) (o : Cell) : Type 0 where
  pub cell : Cell
  pub held : holds e cell ≡ true
  pub passes : related op inputs i o cell ≡ true

-- the one at its own place
met-itself : (op : Op) (inputs : List Grid) (i : ℕ) (out : Extent) (o : Cell) → relates_itself op i ≡ true
    → shape_of op (extents_of inputs) ≡ Ok out
    → ((t : ℤ) → op ≡ Regions t → holds (input_at inputs 0).extent o ≡ true) → holds out o ≡ true
    → IsMet op inputs i (extent_at (extents_of inputs) i) o
met-itself op inputs i out o known told grid held = record {
  cell = o;
  held = ap (λ (e : Extent). holds e o) (own-side op (extents_of inputs) out i known told) ∙ held;
  passes = itself op inputs i o known grid;
}

-- the one to which it is mapped
met-mapped : (op : Op) (inputs : List Grid) (i : ℕ) (o : Cell) → (i == 0) ≡ true
    → ((x : Cell) → related op inputs i o x
    ≡ mapped_between (extent_at (extents_of inputs) 0) (output_extent op (extents_of inputs)) op i o x)
    → IsMapped (extent_at (extents_of inputs) 0) (output_extent op (extents_of inputs)) op i o
    → IsMet op inputs i (extent_at (extents_of inputs) i) o
met-mapped op inputs i o first same at = record {
  cell = at.cell;
  held = ap (λ (n : ℕ). holds (extent_at (extents_of inputs) n) at.cell) (eqb-true i 0 first) ∙ at.held;
  passes = same at.cell ∙ at.passes;
}

met : (op : Op) (inputs : List Grid) (i : ℕ) (out : Extent) (o : Cell) → reaches_all op i ≡ true
    → shape_of op (extents_of inputs) ≡ Ok out → has_right_parameters op ≡ true
    → is_extent (extent_at (extents_of inputs) 0) ≡ true → is_extent (output_extent op (extents_of inputs)) ≡ true
    → ((t : ℤ) → op ≡ Regions t → holds (input_at inputs 0).extent o ≡ true)
    → output_extent op (extents_of inputs) ≡ out → holds out o ≡ true
    → IsMet op inputs i (extent_at (extents_of inputs) i) o
met Transpose inputs i out o known told right in_right out_right grid same held =
    let e : Extent = extent_at (extents_of inputs) 0 in
    let there = ap (λ (d : Extent). holds d o) same ∙ held in
    met-mapped Transpose inputs i o known (λ x. refl)
    (turned-mapped e (output_extent Transpose (extents_of inputs)) i o known in_right out_right refl there)
met (Slice r0 c0 h w) inputs i out o known told right in_right out_right grid same held =
    let e : Extent = extent_at (extents_of inputs) 0 in
    let there = ap (λ (d : Extent). holds d o) same ∙ held in
    let within = sliced-within e r0 c0 h w out told in
    met-mapped (Slice r0 c0 h w) inputs i o known (λ x. refl)
    (slice-mapped e (output_extent (Slice r0 c0 h w) (extents_of inputs)) r0 c0 h w i o known in_right out_right
    within.0 within.1 (within.2 ∙ sym same) there)
met (Convolve w) inputs i out o known told right in_right out_right grid same held =
    met-itself (Convolve w) inputs i out o known told grid held
met (Block fold h w) inputs i out o known told right in_right out_right grid same held =
    let e : Extent = extent_at (extents_of inputs) 0 in
    let there = ap (λ (d : Extent). holds d o) same ∙ held in
    let some = and_parts (nat_le 1 h) (nat_le 1 w) right in
    met-mapped (Block fold h w) inputs i o known (λ x. refl)
    (block-mapped e (output_extent (Block fold h w) (extents_of inputs)) fold h w i o known (leb-true 1 h some.0)
    (leb-true 1 w some.1) in_right out_right refl there)
met Lookup inputs i out o known told right in_right out_right grid same held =
    met-itself Lookup inputs i out o known told grid held
met (Regions t) inputs i out o known told right in_right out_right grid same held =
    met-itself (Regions t) inputs i out o known told grid held
met (Clean t) inputs i out o known told right in_right out_right grid same held =
    met-itself (Clean t) inputs i out o known told grid held
met (FoldLayers fold) inputs i out o known told right in_right out_right grid same held =
    let e : Extent = extent_at (extents_of inputs) 0 in
    let there = ap (λ (d : Extent). holds d o) same ∙ held in
    met-mapped (FoldLayers fold) inputs i o known (λ x. refl)
    (layers-mapped e (output_extent (FoldLayers fold) (extents_of inputs)) fold i o known in_right refl there)
met op inputs i out o known told right in_right out_right grid same held = (cc)

-- an operator has an input
some-input : (op : Op) → 0 < arity op
some-input Add = omega arith
some-input Sub = omega arith
some-input Mul = omega arith
some-input Min = omega arith
some-input Max = omega arith
some-input Lookup = omega arith
some-input op = omega arith

-- so a set of all cells reaches all cells
pub whole-reaches : (s : Site) (a b : List Grid) (i n : ℕ) (set to : Cells) → reaches_all s.op i ≡ true
    → IsAtWork s a → set.extent ≡ extent_at s.ins i
    → ((c : Cell) → holds set.extent c ≡ true → has set c ≡ true) → to.extent ≡ s.out → n ≡ size_of s.out
    → with_those to (is_between 0 n to.extent) ≡ with_those to (reaches s.op a b i set)
whole-reaches s a b i n set to known work shape whole same all =
    with-ext to (is_between 0 n to.extent) (reaches s.op a b i set)
    (λ o held.
    let there : holds s.out o ≡ true = subst (λ (e : Extent). holds e o ≡ true) same held in
    let size : size_of to.extent ≡ n = ap size_of same ∙ sym all in
    let ins : extents_of a ≡ s.ins = work.shapes in
    let told : shape_of s.op (extents_of a) ≡ Ok s.out = ap (shape_of s.op) ins ∙ work.site.shape in
    let made : output_extent s.op (extents_of a) ≡ s.out = out-at_work s a work in
    let in_right : is_extent (extent_at (extents_of a) 0) ≡ true =
    ap (λ (es : List Extent). is_extent (extent_at es 0)) ins
    ∙ extent-right s.ins 0 work.right (omega (arith, work.site.arity, some-input s.op)) in
    let out_right : is_extent (output_extent s.op (extents_of a)) ≡ true =
    ap is_extent made ∙ output-right s work.site work.right in
    let at : IsMet s.op a i (extent_at (extents_of a) i) o =
    met s.op a i s.out o known told work.site.parameters in_right out_right
    (λ t is. ap (λ (e : Extent). holds e o) (grid-shape s a t is work) ∙ there) made there in
    let within : has set at.cell ≡ true =
    whole at.cell
    (ap (λ (e : Extent). holds e at.cell) (shape ∙ ap (λ (es : List Extent). extent_at es i) (sym ins)) ∙ at.held) in
    and_from (nat_le 0 (index_of to.extent o)) (nat_lt (index_of to.extent o) n)
    (le-leb 0 (index_of to.extent o) (omega arith))
    (lt-ltb (index_of to.extent o) n (omega (arith, index-below to.extent o held, size)))
    ∙ sym (any-has (λ x. related s.op a i o x || related s.op b i o x) set at.cell within
    (or_left (related s.op a i o at.cell) (related s.op b i o at.cell) at.passes)))

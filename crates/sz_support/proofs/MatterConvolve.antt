-- What follows of convolution: that each cell under a weight other than 0 matters.
--
-- The key idea: one tap lies on x, since two taps of one row and one column are one. So the sum is the weight times
-- what x holds, and the sum of the other terms, which is the same in the changed inputs.
use Rattle.std.proofs.Common.{◌≡◌, ℕ, zero, suc, ◌+◌, ◌-◌, ◌*◌, ◌/◌, ◌<◌, ◌≤◌, ℤ, pos, negsuc, ◌+ℤ◌, ◌*ℤ◌, Bool, true}
use Rattle.std.proofs.Common.{false, not, ◌&&◌, ◌==◌, List, [], ◌∷◌, ◌++◌, map, Option, Some, None, refl, sym, ap}
use Rattle.std.proofs.Common.{ap₂, ◌∙◌}
use Rattle.std.proofs.Common.{arith, inl, inr, eqb-true, lt-ltb, le-leb, length}
use Rattle.std.proofs.Math.IntN.{*ℤ-zero}
use Rattle.std.proofs.Math.Nat.{eq_of_mul-eq-mul_left, mul-zero}
use Rattle.std.proofs.lemmas.Bool.{cases_Bool, and_parts, and_from, or_cases}
use Rattle.std.proofs.lemmas.Bool.{true≢false, false_from_ne_true, eqb-false}
use Rattle.std.proofs.lemmas.Int.{ints, unsigned_abs-mul}
use Rattle.std.proofs.lemmas.List.{map-append}
use Rattle.std.proofs.lemmas.List.Elements.{filter-append}
use Rattle.std.specs.Prelude.{option_and_then, option_map}
use Rattle.std.specs.Int.RustNames.{unsigned_abs}
use Rattle.std.specs.List.{filter, list_any, range_with_len}
use Rattle.sz_cells.specs.declared.Cell.{Cell}
use Rattle.sz_cells.specs.Extent.{Extent, height_of, is_extent, holds, layer_of, row_in, cell_in}
use Rattle.sz_cells.specs.Cells.{is_same}
use Rattle.sz_cells.proofs.Sets.{is_same-true, index-cell}
use Rattle.sz_cells.proofs.Shapes.{cell-has_place}
use Rattle.sz_cells.proofs.Windows.{range-append}
use Rattle.sz_spec.specs.declared.op.Op.{Op}
use Rattle.sz_spec.specs.declared.op.Op.TheVariants.{Convolve}
use Rattle.sz_spec.specs.Values.{Grid, fit, value_at, input_at, extent_at, extents_of, with_numbers}
use Rattle.sz_spec.specs.Weights.{Weights, Tap, is_zero, tap_at}
use Rattle.sz_spec.specs.Shapes.{Site, arity, shape_of}
use Rattle.sz_spec.specs.Evaluation.{value_of}
use Rattle.sz_spec.specs.Operators.Convolve.{is_under, is_convolved, is_in_range, cell_under, taps_in_range, term_of}
use Rattle.sz_spec.specs.Operators.Convolve.{sum_of_all, convolved_at}
use Rattle.sz_spec.specs.Supports.{supports}
use Rattle.sz_spec.proofs.OutputShapes.{extent-right}
use Rattle.sz_spec.proofs.PayloadLineage.{extent-of_input, extent-of_site}
use Rattle.sz_spec.proofs.Dependence.{place-of, tap-there}
use Rattle.sz_support.specs.Changes.{IsSupported, with_value, changed_at}
use Rattle.sz_support.specs.LawsMatter.{ConvolvedCellsMatter}
use Rattle.sz_support.proofs.ChangedInputs.{with-there, with-others, changed-there, inputs-many}
use Rattle.sz_support.proofs.Differing.{ReadsAt, IsSharp, by-sharp, fit-number}

-- ---- a tap among the others

-- what is found among the items of a range that pass a test
any-made : {X : Type 0} (p q : X → Bool) (make : ℕ → X) (a n : ℕ)
    → list_any p (filter q (map make (range_with_len a n))) ≡ true
    → (k : ℕ) × (a ≤ k) × (k < a + n) × (q (make k) ≡ true) × (p (make k) ≡ true)
any-made p q make a zero h = absurd (true≢false (sym h))
any-made p q make a (suc n) h =
    let rest : list_any p (filter q (map make (range_with_len (a + 1) n))) ≡ true
    → (k : ℕ) × (a ≤ k) × (k < a + suc n) × (q (make k) ≡ true) × (p (make k) ≡ true) =
    λ found.
    let one = any-made p q make (a + 1) n found in
    (one.0, omega (arith, one.1), omega (arith, one.2), one.3, one.4) in
    elim (cases_Bool (q (make a))) [
      | inl kept ↦
          elim (or_cases (p (make a)) (list_any p (filter q (map make (range_with_len (a + 1) n)))) (rw kept at h)) [
            | inl here ↦ (a, omega arith, omega arith, kept, here)
            | inr later ↦ rest later
          ]
      | inr left ↦ rest (rw left at h)
    ]

-- items of a range, around one of them that passes both tests
items-around : {X : Type 0} (q r : X → Bool) (make : ℕ → X) (i n : ℕ) → q (make i) ≡ true → r (make i) ≡ true
    → filter r (filter q (map make (range_with_len 0 (i + suc n))))
    ≡ filter r (filter q (map make (range_with_len 0 i)))
    ++ make i ∷ filter r (filter q (map make (range_with_len (i + 1) n)))
items-around q r make i n first second =
    let number : 0 + i ≡ i = omega arith in
    let behind : filter r (filter q (map make (range_with_len i (suc n))))
    ≡ make i ∷ filter r (filter q (map make (range_with_len (i + 1) n))) = rw (first, second) refl in
    ap (λ (ks : List ℕ). filter r (filter q (map make ks))) (range-append i 0 (suc n))
    ∙ ap (λ (k : ℕ). filter r (filter q (map make (range_with_len 0 i ++ range_with_len k (suc n))))) number
    ∙ ap (λ xs. filter r (filter q xs)) (map-append make (range_with_len 0 i) (range_with_len i (suc n)))
    ∙ ap (filter r) (filter-append q (map make (range_with_len 0 i)) (map make (range_with_len i (suc n))))
    ∙ filter-append r (filter q (map make (range_with_len 0 i))) (filter q (map make (range_with_len i (suc n))))
    ∙ ap (λ xs. filter r (filter q (map make (range_with_len 0 i))) ++ xs) behind

-- what two functions make of the items of a range that pass both tests
made-same : {X Y : Type 0} (f h : X → Y) (q r : X → Bool) (make : ℕ → X) (a n : ℕ)
    → ((k : ℕ) → a ≤ k → k < a + n → r (make k) ≡ true → f (make k) ≡ h (make k))
    → map f (filter r (filter q (map make (range_with_len a n))))
    ≡ map h (filter r (filter q (map make (range_with_len a n))))
made-same f h q r make a zero same = refl
made-same f h q r make a (suc n) same =
    let rest = made-same f h q r make (a + 1) n (λ k low high. same k (omega arith) (omega arith)) in
    elim (cases_Bool (q (make a))) [
      | inl kept ↦
          rw kept (elim (cases_Bool (r (make a))) [
            | inl also ↦ rw also (ap₂ (λ y ys. y ∷ ys) (same a (omega arith) (omega arith) also) rest)
            | inr not_also ↦ rw not_also rest
          ])
      | inr left ↦ rw left rest
    ]

-- ---- sums

-- a term apart from the others
sum-around : (xs ys : List (Option ℤ)) (v : Option ℤ)
    → sum_of_all (xs ++ v ∷ ys) ≡ with_numbers (λ a b. Some (a +ℤ b)) v (sum_of_all (xs ++ ys))
sum-around [] ys v = refl
sum-around (None ∷ xs) ys None = refl
sum-around (None ∷ xs) ys (Some z) = refl
sum-around (Some x ∷ xs) ys v =
    ap (with_numbers (λ a b. Some (a +ℤ b)) (Some x)) (sum-around xs ys v)
    ∙ turned x v (sum_of_all (xs ++ ys)) where
      turned : (x : ℤ) (v w : Option ℤ) → with_numbers (λ a b. Some (a +ℤ b)) (Some x)
          (with_numbers (λ a b. Some (a +ℤ b)) v w)
          ≡ with_numbers (λ a b. Some (a +ℤ b)) v (with_numbers (λ a b. Some (a +ℤ b)) (Some x) w)
      turned x None w = refl
      turned x (Some y) None = refl
      turned x (Some y) (Some z) = let same : x +ℤ (y +ℤ z) ≡ y +ℤ (x +ℤ z) = omega (arith, ints) in
          ap (λ (s : ℤ). Some s) same

-- ---- weights

-- a number other than 0 by another one is 0 where that one is
pub by-weight : (w z : ℤ) → not (is_zero w) ≡ true → w *ℤ z ≡ pos 0 → z ≡ pos 0
by-weight w z weighs none =
    let sizes : unsigned_abs w * unsigned_abs z ≡ unsigned_abs w * 0 =
    sym (unsigned_abs-mul w z) ∙ ap unsigned_abs none ∙ sym (mul-zero (unsigned_abs w)) in
    small z (eq_of_mul-eq-mul_left (unsigned_abs w) (large w weighs) (unsigned_abs z) 0 sizes) where
      large : (w : ℤ) → not (is_zero w) ≡ true → 0 < unsigned_abs w
      large (pos n) h =
          elim (cases_Bool (n == 0)) [
            | inl t ↦ let told = rw t at h in (cc)
            | inr f ↦ let other = eqb-false n 0 f in omega arith
          ]
      large (negsuc n) h = omega arith

      small : (z : ℤ) → unsigned_abs z ≡ 0 → z ≡ pos 0
      small (pos n) h = ap pos h
      small (negsuc n) h = absurd (omega arith)

-- what the sum makes of the value under a weight, beside the others
abbrev pub weighed : ℤ → Option ℤ → Option ℤ → Option ℤ
weighed w rest v =
    option_and_then fit (with_numbers (λ a b. Some (a +ℤ b)) (option_map (λ u. w *ℤ u) v) rest)

weighed-sharp : (w : ℤ) (rest : Option ℤ) → not (is_zero w) ≡ true → IsSharp (weighed w rest)
weighed-sharp w None weighs z r first second = let told : None ≡ Some r = first in (cc)
weighed-sharp w (Some q) weighs z r first second =
    let one = fit-number (w *ℤ z +ℤ q) r first in
    let two = fit-number (w *ℤ pos 0 +ℤ q) r second in
    let none = *ℤ-zero w in
    by-weight w z weighs (omega (arith, ints))

-- ---- the tap that lies on x

-- a tap that lies on a cell of the shape is in range, and its cell is that one
tap-on : (e : Extent) (w : Weights) (o x : Cell) (t : Tap) → is_extent e ≡ true → holds e x ≡ true
    → is_under e w o x t ≡ true → (is_in_range e w o t ≡ true) × (cell_under e w o t ≡ x)
tap-on e w o x t right held under =
    let outer = and_parts ((layer_of e x == layer_of e o) && (row_in e x + w.rows / 2 == row_in e o + t.row))
    (x.col + w.cols / 2 == o.col + t.col) under in
    let inner = and_parts (layer_of e x == layer_of e o) (row_in e x + w.rows / 2 == row_in e o + t.row) outer.0 in
    let layer = eqb-true (layer_of e x) (layer_of e o) inner.0 in
    let row = eqb-true (row_in e x + w.rows / 2) (row_in e o + t.row) inner.1 in
    let col = eqb-true (x.col + w.cols / 2) (o.col + t.col) outer.1 in
    let here = place-of e x right held in
    let down : (row_in e o + t.row) - w.rows / 2 ≡ row_in e x = omega (arith, row) in
    let along : (o.col + t.col) - w.cols / 2 ≡ x.col = omega (arith, col) in (
      and_from _ _ (and_from _ _ (and_from _ _
          (le-leb (w.rows / 2) (row_in e o + t.row) (omega (arith, row)))
          (lt-ltb (row_in e o + t.row) (height_of e + w.rows / 2) (omega (arith, row, here.1))))
          (le-leb (w.cols / 2) (o.col + t.col) (omega (arith, col))))
          (lt-ltb (o.col + t.col) (e.cols + w.cols / 2) (omega (arith, col, here.2))),
      ap (λ (k : ℕ). cell_in e k ((row_in e o + t.row) - w.rows / 2) ((o.col + t.col) - w.cols / 2)) (sym layer)
          ∙ ap₂ (λ (r c : ℕ). cell_in e (layer_of e x) r c) down along
          ∙ (cell-has_place e x right held).1,
    )

-- taps of one row and one column are one
tap-number : (w : Weights) (k : ℕ) → (tap_at w k).row * w.cols + (tap_at w k).col ≡ k
tap-number w k = index-cell (record { layers = 1; rows = w.rows; cols = w.cols }) k

-- so another tap in range does not lie on x
tap-off : (e : Extent) (w : Weights) (o x : Cell) (i k : ℕ) → is_extent e ≡ true → holds e o ≡ true
    → is_under e w o x (tap_at w i) ≡ true → is_in_range e w o (tap_at w k) ≡ true → (k ≡ i → ⊥)
    → is_same (cell_under e w o (tap_at w k)) x ≡ false
tap-off e w o x i k right held under inside other =
    let outer = and_parts ((layer_of e x == layer_of e o) && (row_in e x + w.rows / 2 == row_in e o + (tap_at w i).row))
    (x.col + w.cols / 2 == o.col + (tap_at w i).col) under in
    let inner = and_parts (layer_of e x == layer_of e o)
    (row_in e x + w.rows / 2 == row_in e o + (tap_at w i).row) outer.0 in
    let row = eqb-true (row_in e x + w.rows / 2) (row_in e o + (tap_at w i).row) inner.1 in
    let col = eqb-true (x.col + w.cols / 2) (o.col + (tap_at w i).col) outer.1 in
    let there = tap-there e w o (tap_at w k) right held inside in
    false_from_ne_true (is_same (cell_under e w o (tap_at w k)) x)
    (λ same.
    let one = is_same-true (cell_under e w o (tap_at w k)) x same in
    let rows : (tap_at w k).row ≡ (tap_at w i).row =
    omega (arith, there.row, row, ap (row_in e) one) in
    let cols : (tap_at w k).col ≡ (tap_at w i).col =
    omega (arith, there.col, col, ap (λ (c : Cell). c.col) one) in
    other (sym (tap-number w k) ∙ ap₂ (λ (r c : ℕ). r * w.cols + c) rows cols ∙ tap-number w i))

-- ---- the sum around x

abbrev weighs : Tap → Bool
weighs t = not (is_zero t.weight)

abbrev terms : Grid → Weights → Cell → ℕ → ℕ → List (Option ℤ)
terms g w o a n = map (term_of g w o) (filter (is_in_range g.extent w o)
    (filter weighs (map (tap_at w) (range_with_len a n))))

-- the sum of the terms before tap i and of those behind it
abbrev others : Grid → Weights → Cell → ℕ → Option ℤ
others g w o i = sum_of_all (terms g w o 0 i ++ terms g w o (i + 1) (w.rows * w.cols - (i + 1)))

convolved-around : (g : Grid) (w : Weights) (o x : Cell) (i : ℕ) → is_extent g.extent ≡ true
    → holds g.extent x ≡ true → i < w.rows * w.cols → weighs (tap_at w i) ≡ true
    → is_under g.extent w o x (tap_at w i) ≡ true
    → convolved_at w g o ≡ weighed (tap_at w i).weight (others g w o i) (value_at g x)
convolved-around g w o x i right held below weight under =
    let e = g.extent in
    let n = w.rows * w.cols - (i + 1) in
    let on = tap-on e w o x (tap_at w i) right held under in
    let size : w.rows * w.cols ≡ i + suc n = omega arith in
    let front = filter (is_in_range e w o) (filter weighs (map (tap_at w) (range_with_len 0 i))) in
    let back = filter (is_in_range e w o) (filter weighs (map (tap_at w) (range_with_len (i + 1) n))) in
    let taps : taps_in_range e w o ≡ front ++ tap_at w i ∷ back =
    ap (λ (m : ℕ). filter (is_in_range e w o) (filter weighs (map (tap_at w) (range_with_len 0 m)))) size
    ∙ items-around weighs (is_in_range e w o) (tap_at w) i n weight on.0 in
    let sums : sum_of_all (map (term_of g w o) (taps_in_range e w o))
    ≡ with_numbers (λ a b. Some (a +ℤ b)) (term_of g w o (tap_at w i)) (others g w o i) =
    ap (λ (ts : List Tap). sum_of_all (map (term_of g w o) ts)) taps
    ∙ ap sum_of_all (map-append (term_of g w o) front (tap_at w i ∷ back))
    ∙ sum-around (terms g w o 0 i) (terms g w o (i + 1) n) (term_of g w o (tap_at w i)) in
    ap (option_and_then fit) sums
    ∙ ap (λ (c : Cell). weighed (tap_at w i).weight (others g w o i) (value_at g c)) on.1

-- with a new value at x the others stay
others-kept : (g : Grid) (w : Weights) (o x : Cell) (v : Option ℤ) (i : ℕ) → is_extent g.extent ≡ true
    → holds g.extent o ≡ true → holds g.extent x ≡ true → is_under g.extent w o x (tap_at w i) ≡ true
    → others (with_value g x v) w o i ≡ others g w o i
others-kept g w o x v i right held_o held under =
    let e = g.extent in
    let b = with_value g x v in
    let n = w.rows * w.cols - (i + 1) in
    let apart : (k : ℕ) → is_in_range e w o (tap_at w k) ≡ true → (k ≡ i → ⊥)
    → term_of b w o (tap_at w k) ≡ term_of g w o (tap_at w k) =
    λ k inside other.
    let there = tap-there e w o (tap_at w k) right held_o inside in
    ap (option_map (λ u. (tap_at w k).weight *ℤ u))
    (with-others g x (cell_under e w o (tap_at w k)) v held there.held
    (tap-off e w o x i k right held_o under inside other)) in
    ap₂ (λ (xs ys : List (Option ℤ)). sum_of_all (xs ++ ys))
    (made-same (term_of b w o) (term_of g w o) weighs (is_in_range e w o) (tap_at w) 0 i
    (λ k low high inside. apart k inside (λ same. omega arith)))
    (made-same (term_of b w o) (term_of g w o) weighs (is_in_range e w o) (tap_at w) (i + 1) n
    (λ k low high inside. apart k inside (λ same. omega arith)))

-- ---- the law

-- the value is a weight times that of the cell, and the rest
pub reads-convolved : (w : Weights) (s : Site) (inputs : List Grid) (i : ℕ) (o x : Cell) → s.op ≡ Convolve w
    → IsSupported s inputs i o x
    → (weight : ℤ) × (rest : Option ℤ) × (not (is_zero weight) ≡ true)
    × ReadsAt s inputs i o x (weighed weight rest)
reads-convolved w s inputs i o x is known =
    let g = input_at inputs 0 in
    let e = g.extent in
    let told : supports (Convolve w) inputs i o x ≡ true =
    sym (ap (λ (a : Op). supports a inputs i o x) is) ∙ known.supports in
    let both = and_parts (i == 0) (is_convolved (extent_at (extents_of inputs) 0) w o x) told in
    let number : i ≡ 0 = eqb-true i 0 both.0 in
    let many : length s.ins ≡ 1 = ((known.work).site).arity ∙ ap arity is in
    let shape : e ≡ extent_at s.ins 0 = extent-of_site s inputs 0 known.work in
    let right : is_extent e ≡ true =
    ap is_extent shape ∙ extent-right s.ins 0 (known.work).right (omega (arith, many)) in
    let held : holds e x ≡ true =
    ap (λ (d : Extent). holds d x) shape ∙ ap (λ (k : ℕ). holds (extent_at s.ins k) x) (sym number) ∙ known.there in
    let told_shape = ap (λ (a : Op). shape_of a s.ins) (sym is) ∙ ((known.work).site).shape in
    let out : extent_at s.ins 0 ≡ s.out = cc in
    let held_o : holds e o ≡ true = ap (λ (d : Extent). holds d o) (shape ∙ out) ∙ known.held in
    let under = sym (ap (λ (d : Extent). is_convolved d w o x) (extent-of_input inputs 0)) ∙ both.1 in
    let tap = any-made (is_under e w o x) weighs (tap_at w) 0 (w.rows * w.cols) under in
    let below : tap.0 < w.rows * w.cols = omega (arith, tap.2) in
    let value : (gs : List Grid) → value_of s.op gs o ≡ convolved_at w (input_at gs 0) o =
    λ gs. ap (λ (a : Op). value_of a gs o) is in
    let f = weighed (tap_at w tap.0).weight (others g w o tap.0) in
    let reads : ReadsAt s inputs i o x f = record {
      now = value inputs
          ∙ convolved-around g w o x tap.0 right held below tap.3 tap.4
          ∙ ap (λ (k : ℕ). f (value_at (input_at inputs k) x)) (sym number);
      changed = λ v.
          let there : input_at (changed_at inputs i x v) 0 ≡ with_value g x v =
          ap (λ (k : ℕ). input_at (changed_at inputs k x v) 0) number
          ∙ changed-there inputs 0 x v (omega (arith, many, inputs-many s inputs known.work)) in
          value (changed_at inputs i x v)
          ∙ ap (λ (d : Grid). convolved_at w d o) there
          ∙ convolved-around (with_value g x v) w o x tap.0 right held below tap.3 tap.4
          ∙ ap₂ (weighed (tap_at w tap.0).weight)
          (others-kept g w o x v tap.0 right held_o held tap.4) (with-there g x v held);
    } in
    ((tap_at w tap.0).weight, others g w o tap.0, tap.3, reads)

pub convolved-matter : ConvolvedCellsMatter
convolved-matter w s inputs i o x is known can =
    let read = reads-convolved w s inputs i o x is known in
    by-sharp s inputs i o x (weighed read.0 read.1) read.3 (weighed-sharp read.0 read.1 read.2) can

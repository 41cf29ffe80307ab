-- What follows of operators whose output cell reads one cell: that each supporting cell matters.
--
-- The key idea: the value of the output cell is what a function of one number makes of that cell, and of two numbers
-- it makes two values; or it is that cell's value itself.
use Rattle.std.proofs.Common.{◌≡◌, ℕ, ◌+◌, ℤ, pos, neg_ℤ, ◌+ℤ◌, ◌*ℤ◌, true, false, ◌&&◌, ◌==◌}
use Rattle.std.proofs.Common.{List, length, Option, Some, None, refl, sym, ap, ap₂, ◌∙◌, arith, inl, inr}
use Rattle.std.proofs.Common.{eqb-true}
use Rattle.std.proofs.Math.IntN.{one, *ℤ_comm, *ℤ-one, zero-*ℤ}
use Rattle.std.specs.Prelude.{int_lt, int_le}
use Rattle.std.proofs.lemmas.Bool.{cases_Bool, and_parts}
use Rattle.std.proofs.lemmas.Int.{ints}
use Rattle.sz_cells.specs.declared.Cell.{Cell}
use Rattle.sz_cells.specs.Extent.{Extent, holds, layer_of, row_in, cell_in}
use Rattle.sz_cells.specs.Cells.{is_same}
use Rattle.sz_cells.proofs.Sets.{is_same-true}
use Rattle.sz_cells.proofs.Shapes.{cell-has_place}
use Rattle.sz_spec.specs.declared.op.Op.{Op}
use Rattle.sz_spec.specs.declared.op.Op.TheVariants.{Neg, Abs, AddK, MulK, Clip, Transpose, Slice}
use Rattle.sz_spec.specs.Values.{Grid, fit, value_at, input_at, extent_at, extents_of, with_number}
use Rattle.sz_spec.specs.Shapes.{Site, arity, has_right_parameters, output_extent}
use Rattle.sz_spec.specs.Lineage.{same_layer}
use Rattle.sz_spec.specs.Evaluation.{in_layer_of, value_of}
use Rattle.sz_spec.specs.Operators.Elementwise.{absolute, clipped}
use Rattle.sz_spec.specs.Supports.{supports}
use Rattle.sz_spec.proofs.OutputShapes.{extent-right}
use Rattle.sz_spec.proofs.PayloadLineage.{extent-of_input}
use Rattle.sz_support.specs.Changes.{changed_at, IsSupported}
use Rattle.sz_support.specs.LawsMatter.{EachMattersByNumber, EachMattersByPresence, NegatedCellsMatter}
use Rattle.sz_support.specs.LawsMatter.{CellsOfAbsMatter, CellsOfAddKMatter, CellsOfMulKMatter}
use Rattle.sz_support.specs.LawsMatter.{CellsOfMulKMatterByPresence, CellsOfClipMatter, CellsOfClipMatterByPresence}
use Rattle.sz_support.specs.LawsMatter.{TransposedCellsMatter, SlicedCellsMatter}
use Rattle.sz_support.proofs.ChangedInputs.{changed-work, changed-value}
use Rattle.sz_support.proofs.Differing.{ReadsAt, fit-other, by-numbers, by-presence}

-- ---- the same cell

-- an operator of one input that makes its output cell of the same cell
record IsOwn (op : Op) (f : ℤ → Option ℤ) : Type 0 where
  one : arity op ≡ 1
  value : (gs : List Grid) (o : Cell) → value_of op gs o ≡ with_number f (value_at (input_at gs 0) o)
  supported : (gs : List Grid) (i : ℕ) (o x : Cell) → supports op gs i o x ≡ ((i == 0) && is_same x o)

reads-own : (op : Op) (f : ℤ → Option ℤ) → IsOwn op f → (s : Site) (inputs : List Grid) (i : ℕ) (o x : Cell)
    → s.op ≡ op → IsSupported s inputs i o x → ReadsAt s inputs i o x (with_number f)
reads-own op f own s inputs i o x is known =
    let both = and_parts (i == 0) (is_same x o)
    (sym (ap (λ (p : Op). supports p inputs i o x) is ∙ own.supported inputs i o x) ∙ known.supports) in
    let number : i ≡ 0 = eqb-true i 0 both.0 in
    let cell : x ≡ o = is_same-true x o both.1 in
    let many : length s.ins ≡ 1 = ((known.work).site).arity ∙ ap arity is ∙ own.one in
    let value : (gs : List Grid) → value_of s.op gs o ≡ with_number f (value_at (input_at gs i) x) =
    λ gs. ap (λ (p : Op). value_of p gs o) is ∙ own.value gs o
    ∙ ap₂ (λ (k : ℕ) (c : Cell). with_number f (value_at (input_at gs k) c)) (sym number) (sym cell) in
    record {
      now = value inputs;
      changed = λ v. value (changed_at inputs i x v)
          ∙ ap (with_number f) (changed-value s inputs i x v known.work (omega (arith, number, many)) known.there);
    }

own-numbers : (op : Op) (f : ℤ → Option ℤ) (a b : ℤ) → IsOwn op f → fit a ≡ Some a → fit b ≡ Some b
    → (f a ≡ f b → ⊥) → EachMattersByNumber op
own-numbers op f a b own first second apart s inputs i o x is known =
    by-numbers s inputs i o x (with_number f) a b (reads-own op f own s inputs i o x is known) first second apart

own-presence : (op : Op) (f : ℤ → Option ℤ) → IsOwn op f → (f (pos 0) ≡ None → ⊥) → EachMattersByPresence op
own-presence op f own there s inputs i o x is known =
    by-presence s inputs i o x (with_number f) (reads-own op f own s inputs i o x is known) (λ h. there (sym h))

own-neg : IsOwn Neg (λ z. fit (neg_ℤ z))
own-neg = record { one = refl; value = λ gs o. refl; supported = λ gs i o x. refl }

own-abs : IsOwn Abs absolute
own-abs = record { one = refl; value = λ gs o. refl; supported = λ gs i o x. refl }

own-add : (k : ℤ) → IsOwn (AddK k) (λ z. fit (z +ℤ k))
own-add k = record { one = refl; value = λ gs o. refl; supported = λ gs i o x. refl }

own-mul : (k : ℤ) → IsOwn (MulK k) (λ z. fit (z *ℤ k))
own-mul k = record { one = refl; value = λ gs o. refl; supported = λ gs i o x. refl }

own-clip : (lo hi : ℤ) → IsOwn (Clip lo hi) (clipped lo hi)
own-clip lo hi = record { one = refl; value = λ gs o. refl; supported = λ gs i o x. refl }

pub negated-matter : NegatedCellsMatter
negated-matter = own-numbers Neg (λ z. fit (neg_ℤ z)) (pos 0) (pos 1) own-neg refl refl (λ h. cc)

pub abs-matter : CellsOfAbsMatter
abs-matter = own-numbers Abs absolute (pos 0) (pos 1) own-abs refl refl (λ h. cc)

pub add-matter : CellsOfAddKMatter
add-matter k right =
    own-numbers (AddK k) (λ z. fit (z +ℤ k)) (pos 0) (pos 1) (own-add k) refl refl
    (λ h.
    let none : pos 0 +ℤ k ≡ k = omega (arith, ints) in
    let one : pos 1 +ℤ k ≡ k → ⊥ = λ same. omega (arith, ints) in
    fit-other (pos 1 +ℤ k) k one (sym h ∙ ap fit none ∙ right))

-- 0 by any number is 0, and 1 by it is that number
one-by : (k : ℤ) → pos 1 *ℤ k ≡ k
unfolding one
one-by k = *ℤ_comm (pos 1) k ∙ *ℤ-one k

pub mul-matter : CellsOfMulKMatter
mul-matter k other =
    own-numbers (MulK k) (λ z. fit (z *ℤ k)) (pos 0) (pos 1) (own-mul k) refl refl
    (λ h.
    let none = zero-*ℤ k in
    let one = one-by k in
    fit-other (pos 1 *ℤ k) (pos 0) (λ same. other (sym one ∙ same)) (sym h ∙ ap fit none))

pub mul-present : CellsOfMulKMatterByPresence
mul-present k = own-presence (MulK k) (λ z. fit (z *ℤ k)) (own-mul k)
    (λ h. let none = zero-*ℤ k in let told = sym (ap fit none) ∙ h in (cc))

-- each bound is clipped to itself
clipped-lo : (lo hi : ℤ) → int_le lo hi ≡ true → clipped lo hi lo ≡ Some lo
clipped-lo lo hi order =
    let low : int_lt lo lo ≡ false = grind (arith, ints) in
    let high : int_lt hi lo ≡ false = grind (arith, ints) in
    rw (low, high) refl

clipped-hi : (lo hi : ℤ) → int_le lo hi ≡ true → clipped lo hi hi ≡ Some hi
clipped-hi lo hi order =
    let low : int_lt hi lo ≡ false = grind (arith, ints) in
    let high : int_lt hi hi ≡ false = grind (arith, ints) in
    rw (low, high) refl

pub clip-matter : CellsOfClipMatter
clip-matter lo hi first second apart s inputs i o x is known =
    let order : int_le lo hi ≡ true =
    sym (ap has_right_parameters is) ∙ ((known.work).site).parameters in
    own-numbers (Clip lo hi) (clipped lo hi) lo hi (own-clip lo hi) first second
    (λ h.
    let both = sym (clipped-lo lo hi order) ∙ h ∙ clipped-hi lo hi order in
    let one : lo ≡ hi = cc in
    apart one) s inputs i o x is known

clipped-there : (lo hi z : ℤ) → clipped lo hi z ≡ None → ⊥
clipped-there lo hi z h =
    elim (cases_Bool (int_lt z lo)) [
      | inl below ↦ let told = rw below at h in (cc)
      | inr above ↦
          let rest = rw above at h in
          elim (cases_Bool (int_lt hi z)) [
            | inl over ↦ let told = rw over at rest in (cc)
            | inr under ↦ let told = rw under at rest in (cc)
          ]
    ]

pub clip-present : CellsOfClipMatterByPresence
clip-present lo hi = own-presence (Clip lo hi) (clipped lo hi) (own-clip lo hi) (clipped-there lo hi (pos 0))

-- ---- one cell of the layer

-- an operator of one input that reads one place of the output cell's layer
record IsPlaced (op : Op) (row col : Extent → Cell → ℕ) : Type 0 where
  one : arity op ≡ 1
  value : (gs : List Grid) (o : Cell) → let out = output_extent op (extents_of gs) in
      value_of op gs o ≡ in_layer_of out o (input_at gs 0) (row out o) (col out o)
  supported : (gs : List Grid) (i : ℕ) (o x : Cell) → let out = output_extent op (extents_of gs) in
      let e = extent_at (extents_of gs) 0 in
      supports op gs i o x
      ≡ ((i == 0) && same_layer out e o x && (row_in e x == row out o) && (x.col == col out o))

reads-placed : (op : Op) (row col : Extent → Cell → ℕ) → IsPlaced op row col
    → (s : Site) (inputs : List Grid) (i : ℕ) (o x : Cell) → s.op ≡ op → IsSupported s inputs i o x
    → ReadsAt s inputs i o x (λ v. v)
reads-placed op row col placed s inputs i o x is known =
    let es = extents_of inputs in
    let out = output_extent op es in
    let e = extent_at es 0 in
    let told = sym (ap (λ (p : Op). supports p inputs i o x) is ∙ placed.supported inputs i o x) ∙ known.supports in
    let outer = and_parts ((i == 0) && same_layer out e o x && (row_in e x == row out o)) (x.col == col out o) told in
    let middle = and_parts ((i == 0) && same_layer out e o x) (row_in e x == row out o) outer.0 in
    let inner = and_parts (i == 0) (same_layer out e o x) middle.0 in
    let number : i ≡ 0 = eqb-true i 0 inner.0 in
    let many : length s.ins ≡ 1 = ((known.work).site).arity ∙ ap arity is ∙ placed.one in
    let shape : e ≡ extent_at s.ins 0 = ap (λ (z : List Extent). extent_at z 0) (known.work).shapes in
    let right = extent-right s.ins 0 (known.work).right (omega (arith, many)) in
    let held : holds (extent_at s.ins 0) x ≡ true =
    ap (λ (k : ℕ). holds (extent_at s.ins k) x) (sym number) ∙ known.there in
    let place : cell_in e (layer_of out o) (row out o) (col out o) ≡ x =
    ap (λ (k : ℕ). cell_in e k (row out o) (col out o)) (sym (eqb-true (layer_of e x) (layer_of out o) inner.1))
    ∙ ap₂ (λ (r c : ℕ). cell_in e (layer_of e x) r c) (sym (eqb-true (row_in e x) (row out o) middle.1))
    (sym (eqb-true x.col (col out o) outer.1))
    ∙ ap (λ (d : Extent). cell_in d (layer_of d x) (row_in d x) x.col) shape
    ∙ (cell-has_place (extent_at s.ins 0) x right held).1 in
    let value : (gs : List Grid) → extents_of gs ≡ es → value_of s.op gs o ≡ value_at (input_at gs i) x =
    λ gs same.
    ap (λ (p : Op). value_of p gs o) is ∙ placed.value gs o
    ∙ ap (λ (z : List Extent). in_layer_of (output_extent op z) o (input_at gs 0) (row (output_extent op z) o)
    (col (output_extent op z) o)) same
    ∙ ap (λ (d : Extent). value_at (input_at gs 0) (cell_in d (layer_of out o) (row out o) (col out o)))
    (sym (extent-of_input gs 0) ∙ ap (λ (z : List Extent). extent_at z 0) same)
    ∙ ap (value_at (input_at gs 0)) place
    ∙ ap (λ (k : ℕ). value_at (input_at gs k) x) (sym number) in
    record {
      now = value inputs refl;
      changed = λ v. value (changed_at inputs i x v)
          ((changed-work s inputs i x v known.work).shapes ∙ sym (known.work).shapes)
          ∙ changed-value s inputs i x v known.work (omega (arith, number, many)) known.there;
    }

placed-matter : (op : Op) (row col : Extent → Cell → ℕ) → IsPlaced op row col → EachMattersByNumber op
placed-matter op row col placed s inputs i o x is known =
    by-numbers s inputs i o x (λ v. v) (pos 0) (pos 1) (reads-placed op row col placed s inputs i o x is known) refl
    refl
    (λ h. cc)

pub transposed-matter : TransposedCellsMatter
transposed-matter =
    placed-matter Transpose (λ out o. o.col) (λ out o. row_in out o)
    (record { one = refl; value = λ gs o. refl; supported = λ gs i o x. refl })

pub sliced-matter : SlicedCellsMatter
sliced-matter r0 c0 height width =
    placed-matter (Slice r0 c0 height width) (λ out o. r0 + row_in out o) (λ out o. c0 + o.col)
    (record { one = refl; value = λ gs o. refl; supported = λ gs i o x. refl })

-- What follows of operators of two inputs: that each of the two cells matters.
--
-- The key idea: the value is a function of what the cell holds, beside what the other one holds, which is the same in
-- the changed inputs.
use Rattle.std.proofs.Common.{◌≡◌, ℕ, zero, suc, ◌-◌, ◌<◌, ℤ, pos, ◌+ℤ◌, ◌-ℤ◌, ◌*ℤ◌, true, not, ◌&&◌}
use Rattle.std.proofs.Common.{◌==◌, List, length, Option, Some, None, refl, sym, ap, ap₂, ◌∙◌, arith, inl, inr}
use Rattle.std.proofs.Common.{eqb-true, ltb-true, nat_lt, negsuc}
use Rattle.std.proofs.Math.IntN.{*ℤ_comm, zero-*ℤ, *ℤ-zero}
use Rattle.std.proofs.lemmas.Bool.{cases_Bool, and_parts}
use Rattle.std.proofs.lemmas.Int.{ints}
use Rattle.std.specs.Int.{int_min, int_max}
use Rattle.sz_cells.specs.declared.Cell.{Cell}
use Rattle.sz_cells.specs.Cells.{is_same}
use Rattle.sz_cells.proofs.Sets.{is_same-true}
use Rattle.sz_spec.specs.declared.op.Op.{Op}
use Rattle.sz_spec.specs.declared.op.Op.TheVariants.{Add, Sub, Mul, Min, Max}
use Rattle.sz_spec.specs.Values.{Grid, fit, value_at, input_at, with_numbers}
use Rattle.sz_spec.specs.Weights.{is_zero}
use Rattle.sz_spec.specs.Shapes.{Site, arity}
use Rattle.sz_spec.specs.Evaluation.{value_of}
use Rattle.sz_spec.specs.Supports.{supports}
use Rattle.sz_support.specs.Changes.{changed_at, IsSupported}
use Rattle.sz_support.specs.LawsMatter.{NumbersCanBeNumbers, AddedCellsMatter, SubtractedCellsMatter}
use Rattle.sz_support.specs.LawsMatter.{MultipliedCellsMatter, ComparedCellsMatter, LesserCellsMatter}
use Rattle.sz_support.specs.LawsMatter.{GreaterCellsMatter}
use Rattle.sz_support.proofs.OneOperator.{value-supported, supports-below}
use Rattle.sz_support.proofs.ChangedInputs.{changed-value, changed-others, changed-differs}
use Rattle.sz_support.proofs.Differing.{ReadsAt, IsSharp, by-sharp, by-presence, fit-number}
use Rattle.sz_support.proofs.MatterConvolve.{by-weight}

-- ---- where the value is a number

-- with the value that it holds at x nothing differs
pub numbers-can : NumbersCanBeNumbers
numbers-can s inputs i o x z r known there right told =
    let inside = supports-below s inputs i o x known.work known.supports in
    let differs = changed-differs s inputs i x (Some z) known.work inside known.there in
    let same = value-supported s inputs (changed_at inputs i x (Some z)) o known.work differs.work known.held
    (λ j y inside_j held_y near.
    elim (cases_Bool ((j == i) && is_same y x)) [
      | inl here ↦
          let both = and_parts (j == i) (is_same y x) here in
          let number = eqb-true j i both.0 in
          let cell = is_same-true y x both.1 in
          ap₂ (λ (k : ℕ) (c : Cell). value_at (input_at inputs k) c) number cell
          ∙ there
          ∙ sym (differs.there)
          ∙ ap₂ (λ (k : ℕ) (c : Cell). value_at (input_at (changed_at inputs i x (Some z)) k) c) (sym number) (sym cell)
      | inr other ↦ differs.others j y inside_j held_y (ap not other)
    ]) in
    (z, right, r, sym same ∙ told)

-- ---- what is read

-- an operator of two inputs that makes its output cell of the same cell of both
pub record IsPaired (op : Op) (f : ℤ → ℤ → Option ℤ) : Type 0 where
  pub two : arity op ≡ 2
  pub value : (gs : List Grid) (o : Cell)
      → value_of op gs o ≡ with_numbers f (value_at (input_at gs 0) o) (value_at (input_at gs 1) o)
  pub supported : (gs : List Grid) (i : ℕ) (o x : Cell) → supports op gs i o x ≡ (nat_lt i 2 && is_same x o)

-- what is made of a value of input i, beside that of the other one
abbrev pub beside : (ℤ → ℤ → Option ℤ) → ℕ → Option ℤ → Option ℤ → Option ℤ
beside f zero other v = with_numbers f v other
beside f (suc i) other v = with_numbers f other v

-- the value of the other input
abbrev pub other_at : List Grid → ℕ → Cell → Option ℤ
other_at inputs i o = value_at (input_at inputs (1 - i)) o

pub reads-paired : (op : Op) (f : ℤ → ℤ → Option ℤ) → IsPaired op f
    → (s : Site) (inputs : List Grid) (i : ℕ) (o x : Cell)
    → s.op ≡ op → IsSupported s inputs i o x → ReadsAt s inputs i o x (beside f i (other_at inputs i o))
reads-paired op f paired s inputs i o x is known =
    let both = and_parts (nat_lt i 2) (is_same x o)
    (sym (ap (λ (p : Op). supports p inputs i o x) is ∙ paired.supported inputs i o x) ∙ known.supports) in
    let inside : i < 2 = ltb-true i 2 both.0 in
    let cell : x ≡ o = is_same-true x o both.1 in
    let many : length s.ins ≡ 2 = ((known.work).site).arity ∙ ap arity is ∙ paired.two in
    let value : (gs : List Grid) → value_of s.op gs o ≡ beside f i (other_at gs i o) (value_at (input_at gs i) o) =
    λ gs. ap (λ (p : Op). value_of p gs o) is ∙ paired.value gs o ∙ at_input i inside gs in
    record {
      now = value inputs
          ∙ ap (λ (c : Cell). beside f i (other_at inputs i o) (value_at (input_at inputs i) c)) (sym cell);
      changed = λ v.
          value (changed_at inputs i x v)
          ∙ ap₂ (λ (w u : Option ℤ). beside f i w u)
          (ap (λ (g : Grid). value_at g o) (changed-others inputs i (1 - i) x v (λ same. omega arith)))
          (ap (value_at (input_at (changed_at inputs i x v) i)) (sym cell)
          ∙ changed-value s inputs i x v known.work (omega (arith, many)) known.there);
    } where
      at_input : (i : ℕ) → i < 2 → (gs : List Grid)
          → with_numbers f (value_at (input_at gs 0) o) (value_at (input_at gs 1) o)
          ≡ beside f i (other_at gs i o) (value_at (input_at gs i) o)
      at_input zero low gs = refl
      at_input (suc zero) low gs = refl
      at_input (suc (suc i)) low gs = absurd (omega arith)

-- ---- sums and differences

-- beside a number, what is made of two numbers is one only of one number
abbrev IsFair : (ℤ → ℤ → Option ℤ) → Type 0
IsFair f = (a b z r : ℤ) → ((f z b ≡ Some r → f (pos 0) b ≡ Some r → z ≡ pos 0)
    × (f a z ≡ Some r → f a (pos 0) ≡ Some r → z ≡ pos 0))

fair-sharp : (f : ℤ → ℤ → Option ℤ) (i : ℕ) (other : Option ℤ) → IsFair f → IsSharp (beside f i other)
fair-sharp f zero None fair z r first second = let told : None ≡ Some r = first in (cc)
fair-sharp f zero (Some b) fair z r first second = (fair b b z r).0 first second
fair-sharp f (suc i) None fair z r first second = let told : None ≡ Some r = first in (cc)
fair-sharp f (suc i) (Some a) fair z r first second = (fair a a z r).1 first second

pub added-matter : AddedCellsMatter
added-matter s inputs i o x is known can =
    let f : ℤ → ℤ → Option ℤ = λ a b. fit (a +ℤ b) in
    by-sharp s inputs i o x (beside f i (other_at inputs i o))
    (reads-paired Add f (record { two = refl; value = λ gs c. refl; supported = λ gs k c d. refl }) s inputs i o x is
    known)
    (fair-sharp f i (other_at inputs i o) (λ a b z r. (
      λ first second. let one = fit-number (z +ℤ b) r first in let two = fit-number (pos 0 +ℤ b) r second in
          omega (arith, ints),
      λ first second. let one = fit-number (a +ℤ z) r first in let two = fit-number (a +ℤ pos 0) r second in
          omega (arith, ints),
    ))) can

pub subtracted-matter : SubtractedCellsMatter
subtracted-matter s inputs i o x is known can =
    let f : ℤ → ℤ → Option ℤ = λ a b. fit (a -ℤ b) in
    by-sharp s inputs i o x (beside f i (other_at inputs i o))
    (reads-paired Sub f (record { two = refl; value = λ gs c. refl; supported = λ gs k c d. refl }) s inputs i o x is
    known)
    (fair-sharp f i (other_at inputs i o) (λ a b z r. (
      λ first second. let one = fit-number (z -ℤ b) r first in let two = fit-number (pos 0 -ℤ b) r second in
          omega (arith, ints),
      λ first second. let one = fit-number (a -ℤ z) r first in let two = fit-number (a -ℤ pos 0) r second in
          omega (arith, ints),
    ))) can

-- ---- products

-- a number other than 0 is no zero
weighs-some : (b : ℤ) → (Some b ≡ Some (pos 0) → ⊥) → not (is_zero b) ≡ true
weighs-some (pos n) other =
    elim (cases_Bool (n == 0)) [
      | inl t ↦ absurd (other (ap (λ (k : ℕ). Some (pos k)) (eqb-true n 0 t)))
      | inr f ↦ rw f refl
    ]
weighs-some (negsuc n) other = refl

product-sharp : (i : ℕ) (other : Option ℤ) → (other ≡ Some (pos 0) → ⊥)
    → IsSharp (beside (λ a b. fit (a *ℤ b)) i other)
product-sharp zero None some z r first second = let told : None ≡ Some r = first in (cc)
product-sharp zero (Some b) some z r first second =
    by-weight b z (weighs-some b some)
    (*ℤ_comm b z ∙ fit-number (z *ℤ b) r first ∙ sym (fit-number (pos 0 *ℤ b) r second) ∙ zero-*ℤ b)
product-sharp (suc i) None some z r first second = let told : None ≡ Some r = first in (cc)
product-sharp (suc i) (Some a) some z r first second =
    by-weight a z (weighs-some a some)
    (fit-number (a *ℤ z) r first ∙ sym (fit-number (a *ℤ pos 0) r second) ∙ *ℤ-zero a)

pub multiplied-matter : MultipliedCellsMatter
multiplied-matter s inputs i o x is known can some =
    let f : ℤ → ℤ → Option ℤ = λ a b. fit (a *ℤ b) in
    by-sharp s inputs i o x (beside f i (other_at inputs i o))
    (reads-paired Mul f (record { two = refl; value = λ gs c. refl; supported = λ gs k c d. refl }) s inputs i o x is
    known)
    (product-sharp i (other_at inputs i o) some) can

-- ---- the lesser and the greater

-- two numbers have one
present : (f : ℤ → ℤ → ℤ) (i : ℕ) (other : Option ℤ) (z r : ℤ)
    → beside (λ a b. Some (f a b)) i other (Some z) ≡ Some r
    → beside (λ a b. Some (f a b)) i other None ≡ beside (λ a b. Some (f a b)) i other (Some (pos 0)) → ⊥
present f zero None z r told h = (cc)
present f zero (Some b) z r told h = (cc)
present f (suc i) None z r told h = (cc)
present f (suc i) (Some a) z r told h = (cc)

compared-matter : (op : Op) (f : ℤ → ℤ → ℤ) → IsPaired op (λ a b. Some (f a b)) → ComparedCellsMatter op
compared-matter op f paired s inputs i o x is known can =
    let h = beside (λ a b. Some (f a b)) i (other_at inputs i o) in
    let reads = reads-paired op (λ a b. Some (f a b)) paired s inputs i o x is known in
    by-presence s inputs i o x h reads
    (present f i (other_at inputs i o) can.0 can.2 (sym (reads.changed (Some can.0)) ∙ can.3))

pub lesser-matter : LesserCellsMatter
lesser-matter =
    compared-matter Min int_min (record { two = refl; value = λ gs c. refl; supported = λ gs k c d. refl })

pub greater-matter : GreaterCellsMatter
greater-matter =
    compared-matter Max int_max (record { two = refl; value = λ gs c. refl; supported = λ gs k c d. refl })

-- When the value of an output cell differs by what one input cell holds.
--
-- The key idea: the value of the output cell is one function of what that cell holds, in the inputs and in the changed
-- ones. Where the function takes two values to two, one of the two is not the old value.
use Rattle.std.proofs.Common.{◌≡◌, ℕ, ◌^◌, ℤ, pos, negsuc, ◌==◌, ◌⊎◌, List, Option, Some, None, refl, sym, ap}
use Rattle.std.proofs.Common.{◌∙◌, inl, inr, eqb-true, nat_lt}
use Rattle.std.proofs.lemmas.Bool.{cases_Bool, eqb-false}
use Rattle.sz_cells.specs.declared.Cell.{Cell}
use Rattle.sz_spec.specs.Values.{Grid, fit, value_at, input_at}
use Rattle.sz_spec.specs.Shapes.{Site}
use Rattle.sz_spec.specs.Evaluation.{value_of}
use Rattle.sz_support.specs.Changes.{changed_at, ValueDiffers, MattersByNumber, CanBeNumber}

-- ---- two values

-- two values are one or not
pub decide : (v w : Option ℤ) → (v ≡ w) ⊎ (v ≡ w → ⊥)
decide None None = inl refl
decide None (Some z) = inr (λ h. cc)
decide (Some z) None = inr (λ h. cc)
decide (Some (pos m)) (Some (pos n)) =
    elim (cases_Bool (m == n)) [
      | inl same ↦ inl (ap (λ (k : ℕ). Some (pos k)) (eqb-true m n same))
      | inr other ↦ inr (λ h. let one : m ≡ n = cc in eqb-false m n other one)
    ]
decide (Some (pos m)) (Some (negsuc n)) = inr (λ h. cc)
decide (Some (negsuc m)) (Some (pos n)) = inr (λ h. cc)
decide (Some (negsuc m)) (Some (negsuc n)) =
    elim (cases_Bool (m == n)) [
      | inl same ↦ inl (ap (λ (k : ℕ). Some (negsuc k)) (eqb-true m n same))
      | inr other ↦ inr (λ h. let one : m ≡ n = cc in eqb-false m n other one)
    ]

-- of two that differ, one differs from a third
pub either-differs : (v a b : Option ℤ) → (a ≡ b → ⊥) → (v ≡ a → ⊥) ⊎ (v ≡ b → ⊥)
either-differs v a b apart =
    elim (decide v a) [
      | inl same ↦ inr (λ h. apart (sym same ∙ h))
      | inr other ↦ inl other
    ]

-- a number is fitted to itself or to nothing
pub fit-cases : (z : ℤ) → (fit z ≡ Some z) ⊎ (fit z ≡ None)
fit-cases (pos n) = elim (cases_Bool (nat_lt n (2 ^ 63))) [ inl t ↦ inl (rw t refl) | inr f ↦ inr (rw f refl) ]
fit-cases (negsuc n) = elim (cases_Bool (nat_lt n (2 ^ 63))) [ inl t ↦ inl (rw t refl) | inr f ↦ inr (rw f refl) ]

pub fit-number : (z r : ℤ) → fit z ≡ Some r → z ≡ r
fit-number z r h =
    elim (fit-cases z) [
      | inl same ↦ let both = sym same ∙ h in (cc)
      | inr none ↦ let both = sym none ∙ h in (cc)
    ]

-- so it is not fitted to another
pub fit-other : (z w : ℤ) → (z ≡ w → ⊥) → fit z ≡ Some w → ⊥
fit-other z w apart h =
    elim (fit-cases z) [
      | inl same ↦ let both = sym same ∙ h in let one : z ≡ w = cc in apart one
      | inr none ↦ let both = sym none ∙ h in (cc)
    ]

-- ---- what is read

-- the value of o is what f makes of the value at x, in the inputs and in the changed ones
pub record ReadsAt (s : Site) (inputs : List Grid) (i : ℕ) (o x : Cell) (f : Option ℤ → Option ℤ) : Type 0 where
  pub now : value_of s.op inputs o ≡ f (value_at (input_at inputs i) x)
  pub changed : (v : Option ℤ) → value_of s.op (changed_at inputs i x v) o ≡ f v

-- so where f takes two values to two, the value of o differs by one of them
pub by-either : (s : Site) (inputs : List Grid) (i : ℕ) (o x : Cell) (f : Option ℤ → Option ℤ) (a b : Option ℤ)
    → ReadsAt s inputs i o x f → (f a ≡ f b → ⊥)
    → ValueDiffers s inputs i o x a ⊎ ValueDiffers s inputs i o x b
by-either s inputs i o x f a b reads apart =
    elim (either-differs (value_of s.op inputs o) (f a) (f b) apart) [
      | inl first ↦ inl (λ h. first (h ∙ reads.changed a))
      | inr second ↦ inr (λ h. second (h ∙ reads.changed b))
    ]

pub by-numbers : (s : Site) (inputs : List Grid) (i : ℕ) (o x : Cell) (f : Option ℤ → Option ℤ) (a b : ℤ)
    → ReadsAt s inputs i o x f → fit a ≡ Some a → fit b ≡ Some b → (f (Some a) ≡ f (Some b) → ⊥)
    → MattersByNumber s inputs i o x
by-numbers s inputs i o x f a b reads first second apart =
    elim (by-either s inputs i o x f (Some a) (Some b) reads apart) [
      | inl by_a ↦ (a, first, by_a)
      | inr by_b ↦ (b, second, by_b)
    ]

pub by-presence : (s : Site) (inputs : List Grid) (i : ℕ) (o x : Cell) (f : Option ℤ → Option ℤ)
    → ReadsAt s inputs i o x f → (f None ≡ f (Some (pos 0)) → ⊥)
    → ValueDiffers s inputs i o x None ⊎ ValueDiffers s inputs i o x (Some (pos 0))
by-presence s inputs i o x f reads apart = by-either s inputs i o x f None (Some (pos 0)) reads apart

-- ---- where the value can be a number

-- a function that gives the same number for 0 and for another number gives it for none else
abbrev pub IsSharp : (Option ℤ → Option ℤ) → Type 0
IsSharp f = (z r : ℤ) → f (Some z) ≡ Some r → f (Some (pos 0)) ≡ Some r → z ≡ pos 0

-- so where it gives a number for some number, another number makes it differ
pub by-sharp : (s : Site) (inputs : List Grid) (i : ℕ) (o x : Cell) (f : Option ℤ → Option ℤ)
    → ReadsAt s inputs i o x f → IsSharp f → CanBeNumber s inputs i o x → MattersByNumber s inputs i o x
by-sharp s inputs i o x f reads sharp can =
    let z = can.0 in
    let told : f (Some z) ≡ Some can.2 = sym (reads.changed (Some z)) ∙ can.3 in
    elim (decide (Some z) (Some (pos 0))) [
      | inl none ↦
          let at_none : f (Some (pos 0)) ≡ Some can.2 = sym (ap f none) ∙ told in
          by-numbers s inputs i o x f (pos 0) (pos 1) reads refl refl
          (λ h. let one = sharp (pos 1) can.2 (sym h ∙ at_none) at_none in (cc))
      | inr some ↦
          by-numbers s inputs i o x f z (pos 0) reads can.1 refl
          (λ h. some (ap (λ (y : ℤ). Some y) (sharp z can.2 told (sym h ∙ told))))
    ]

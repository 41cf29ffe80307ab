-- A sum that is checked is fitted: it is a value exactly where it is an i64.
use Rattle.std.proofs.Common.{◌≡◌, ◌^◌, true, Option, Some, None, FitsSigned, w64, refl, sym, ap, ◌∙◌, inl, inr, nat_lt}
use Rattle.std.proofs.lemmas.Bool.{cases_Bool, lt-ltb, ltb-true}
use Rattle.std.specs.Prelude.{ℤ, pos, negsuc, SomeIff}
use Rattle.sz_spec.specs.Values.{fit}

fits-value : (z : ℤ) → FitsSigned w64 z → fit z ≡ Some z
fits-value (pos n) fits = let below : nat_lt n (2 ^ 63) ≡ true = lt-ltb n (2 ^ 63) fits.sfits in
    rw below refl
fits-value (negsuc n) fits = let below : nat_lt n (2 ^ 63) ≡ true = lt-ltb n (2 ^ 63) fits.sfits in
    rw below refl

other-none : (z : ℤ) → (FitsSigned w64 z → ⊥) → fit z ≡ None
other-none (pos n) out =
    elim (cases_Bool (nat_lt n (2 ^ 63))) [
      | inl t ↦ absurd (out (record { sfits = ltb-true n (2 ^ 63) t }))
      | inr f ↦ rw f refl
    ]
other-none (negsuc n) out =
    elim (cases_Bool (nat_lt n (2 ^ 63))) [
      | inl t ↦ absurd (out (record { sfits = ltb-true n (2 ^ 63) t }))
      | inr f ↦ rw f refl
    ]

pub checked_fit : (r : Option ℤ) (z : ℤ) → SomeIff r (FitsSigned w64 z) z → r ≡ fit z
checked_fit None z out = sym (other-none z out)
checked_fit (Some x) z told = ap (λ y. Some y) told.1 ∙ sym (fits-value z told.0)

-- Which strategies a node is offered, and in which order.
--
-- The key idea: every strategy is black box or one of the others, and these stand by their numbers, so the first
-- that passes a test has the least number of those that pass.
use Rattle.std.proofs.Common.{◌≡◌, ℕ, ◌≤◌, Bool, true, false, ◌&&◌, cond, nat_le, ◌⊎◌, inl, inr}
use Rattle.std.proofs.Common.{List, [], ◌∷◌, Some, refl, ◌∙◌, subst, arith}
use Rattle.std.specs.List.{find, list_all}
use Rattle.std.proofs.lemmas.Bool.{cases_Bool, false≢true}
use Rattle.std.proofs.lemmas.Bool.Decides.{nat_tests}
use Rattle.sz_spec.specs.declared.modes.Strategy.{Strategy}
use Rattle.sz_spec.specs.declared.modes.Strategy.TheVariants as strategy
use Rattle.sz_spec.specs.Modes.{supports, number_of}
use Rattle.sz_spec.specs.Shapes.{Site}
use Rattle.sz_planner.specs.declared.offers.Offer.{Offer}
use Rattle.sz_planner.specs.Offers.{offer_of, offers_among, others}

-- a strategy is one of these
abbrev pub IsAmong : Strategy → List Strategy → Type 0
IsAmong c [] = ⊥
IsAmong c (x ∷ xs) = (c ≡ x) ⊎ IsAmong c xs

pub black_box-or_other : (c : Strategy) → (c ≡ strategy.BlackBox) ⊎ IsAmong c others
unfolding others
black_box-or_other strategy.Map = inr (inl refl)
black_box-or_other strategy.FullOneB = inr (inr (inl refl))
black_box-or_other strategy.FullOneF = inr (inr (inr (inl refl)))
black_box-or_other strategy.FullManyB = inr (inr (inr (inr (inl refl))))
black_box-or_other strategy.FullManyF = inr (inr (inr (inr (inr (inl refl)))))
black_box-or_other strategy.PayOne = inr (inr (inr (inr (inr (inr (inl refl))))))
black_box-or_other strategy.PayMany = inr (inr (inr (inr (inr (inr (inr (inl refl)))))))
black_box-or_other strategy.CompOne = inr (inr (inr (inr (inr (inr (inr (inr (inl refl))))))))
black_box-or_other strategy.CompMany = inr (inr (inr (inr (inr (inr (inr (inr (inr (inl refl)))))))))
black_box-or_other strategy.BlackBox = inl refl

-- black box has the greatest number
pub number-at_most_ten : (c : Strategy) → number_of c ≤ 10
number-at_most_ten strategy.Map = omega arith
number-at_most_ten strategy.FullOneB = omega arith
number-at_most_ten strategy.FullOneF = omega arith
number-at_most_ten strategy.FullManyB = omega arith
number-at_most_ten strategy.FullManyF = omega arith
number-at_most_ten strategy.PayOne = omega arith
number-at_most_ten strategy.PayMany = omega arith
number-at_most_ten strategy.CompOne = omega arith
number-at_most_ten strategy.CompMany = omega arith
number-at_most_ten strategy.BlackBox = omega arith

-- ---- by their numbers

abbrev is_rising : List Strategy → Bool
is_rising [] = true
is_rising (x ∷ xs) = list_all (λ c. nat_le (number_of x) (number_of c)) xs && is_rising xs

others-rising : is_rising others ≡ true
unfolding others
others-rising = refl

pub and-both : (a b : Bool) → (a && b) ≡ true → (a ≡ true) × (b ≡ true)
and-both true true h = (refl, refl)
and-both true false h = absurd (false≢true h)
and-both false true h = absurd (false≢true h)
and-both false false h = absurd (false≢true h)

above-all : (n : ℕ) (xs : List Strategy) (c : Strategy) → list_all (λ y. nat_le n (number_of y)) xs ≡ true
    → IsAmong c xs → n ≤ number_of c
above-all n [] c all among = absurd among
above-all n (x ∷ xs) c all (inl is) =
    let here : nat_le n (number_of x) ≡ true = (and-both _ _ all).0 in
    rw is (grind (arith, nat_tests, here))
above-all n (x ∷ xs) c all (inr among) = above-all n xs c (and-both _ _ all).1 among

-- ---- offers

-- one strategy more: an offer where the operator supports it
pub among-more : (back forward : ℕ) (s : Site) (x : Strategy) (xs : List Strategy)
    → offers_among back forward s (x ∷ xs)
    ≡ cond (supports s.op x) (offer_of back forward s x ∷ offers_among back forward s xs)
    (offers_among back forward s xs)
unfolding offers_among
among-more back forward s x xs =
    elim (cases_Bool (supports s.op x)) [
      | inl t ↦ rw t refl
      | inr f ↦ rw f refl
    ]

pub among-supported : (back forward : ℕ) (s : Site) (x : Strategy) (xs : List Strategy)
    → supports s.op x ≡ true
    → offers_among back forward s (x ∷ xs) ≡ offer_of back forward s x ∷ offers_among back forward s xs
among-supported back forward s x xs t = among-more back forward s x xs ∙ rw t refl

pub among-refused : (back forward : ℕ) (s : Site) (x : Strategy) (xs : List Strategy)
    → supports s.op x ≡ false
    → offers_among back forward s (x ∷ xs) ≡ offers_among back forward s xs
among-refused back forward s x xs f = among-more back forward s x xs ∙ rw f refl

-- ---- the first that passes a test

-- what is found is an offer of one of these strategies, supported, and it passes
pub record IsFound (back forward : ℕ) (s : Site) (p : Offer → Bool) (o : Offer) : Type 0 where
  pub is : o ≡ offer_of back forward s o.strategy
  pub supported : supports s.op o.strategy ≡ true
  pub passes : p o ≡ true

pub found-is : (back forward : ℕ) (s : Site) (p : Offer → Bool) (xs : List Strategy) (o : Offer)
    → find p (offers_among back forward s xs) ≡ Some o → IsFound back forward s p o
unfolding offer_of offers_among
found-is back forward s p [] o is = absurd (cc)
found-is back forward s p (x ∷ xs) o is =
    elim (cases_Bool (supports s.op x)) [
      | inl t ↦
          let first = rw (among-supported back forward s x xs t) at is in
          elim (cases_Bool (p (offer_of back forward s x))) [
            | inl good ↦
                let it : Some (offer_of back forward s x) ≡ Some o = rw good at first in
                let same : offer_of back forward s x ≡ o = cc in
                let P : Offer → Type 0 = λ q. IsFound back forward s p q in
                subst P same (record { is = refl; supported = t; passes = good })
            | inr bad ↦ found-is back forward s p xs o (rw bad at first)
          ]
      | inr f ↦ found-is back forward s p xs o (rw (among-refused back forward s x xs f) at is)
    ]

-- one that passes is found, or one of a lesser number before it
pub found-first : (back forward : ℕ) (s : Site) (p : Offer → Bool) (xs : List Strategy) (c : Strategy)
    → is_rising xs ≡ true → IsAmong c xs → supports s.op c ≡ true → p (offer_of back forward s c) ≡ true
    → (o : Offer) × (find p (offers_among back forward s xs) ≡ Some o) × (number_of o.strategy ≤ number_of c)
unfolding offer_of
found-first back forward s p [] c rises among ok passes = absurd among
found-first back forward s p (x ∷ xs) c rises (inl is) ok passes =
    let supported : supports s.op x ≡ true = rw (← is) ok in
    let here : p (offer_of back forward s x) ≡ true = rw (← is) passes in
    let number : number_of x ≤ number_of c = rw is (omega arith) in
    (offer_of back forward s x, rw (among-supported back forward s x xs supported, here) refl, number)
found-first back forward s p (x ∷ xs) c rises (inr among) ok passes =
    let parts = and-both _ _ rises in
    let rest = found-first back forward s p xs c parts.1 among ok passes in
    elim (cases_Bool (supports s.op x)) [
      | inl t ↦
          elim (cases_Bool (p (offer_of back forward s x))) [
            | inl good ↦ (
              offer_of back forward s x,
              rw (among-supported back forward s x xs t, good) refl,
              above-all (number_of x) xs c parts.0 among,
            )
            | inr bad ↦ (rest.0, rw (among-supported back forward s x xs t, bad) rest.1, rest.2)
          ]
      | inr f ↦ (rest.0, rw (among-refused back forward s x xs f) rest.1, rest.2)
    ]

pub found-first_other : (back forward : ℕ) (s : Site) (p : Offer → Bool) (c : Strategy)
    → IsAmong c others → supports s.op c ≡ true → p (offer_of back forward s c) ≡ true
    → (o : Offer) × (find p (offers_among back forward s others) ≡ Some o) × (number_of o.strategy ≤ number_of c)
found-first_other back forward s p c among ok passes =
    found-first back forward s p others c others-rising among ok passes

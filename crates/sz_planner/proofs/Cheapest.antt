-- What a fold over offers finds.
--
-- The key idea: each step of the fold keeps the lesser, so the least is at most the cost that it began with and
-- that of each offer that fits, and it is one of these.
use Rattle.std.proofs.Common.{◌≡◌, ℕ, ◌-◌, ◌≤◌, Bool, true, false, ◌==◌, nat_le, min}
use Rattle.std.proofs.Common.{inl, inr, List, [], ◌∷◌, Some, None, refl, arith}
use Rattle.std.specs.List.{find}
use Rattle.std.proofs.lemmas.Bool.{cases_Bool}
use Rattle.std.proofs.lemmas.Bool.Decides.{nat_tests}
use Rattle.sz_spec.specs.declared.modes.Strategy.{Strategy}
use Rattle.sz_spec.specs.Modes.{supports}
use Rattle.sz_spec.specs.Shapes.{Site}
use Rattle.sz_planner.specs.Choices.{units_at}
use Rattle.sz_planner.specs.declared.offers.Offer.{Offer}
use Rattle.sz_planner.specs.Offers.{offer_of, offers_among, offers_of}
use Rattle.sz_planner.specs.Costs.{cost_with, lesser, cheapest, attains, cost_over, offer_over}
use Rattle.sz_planner.proofs.Offered.{IsAmong, among-supported, among-refused}

-- ---- one step

lesser-at_most : (b : ℕ → ℕ) (u m : ℕ) (o : Offer) → lesser b u m o ≤ m
lesser-at_most b u m o =
    elim (cases_Bool (nat_le o.units u)) [
      | inl t ↦ rw t (omega arith)
      | inr f ↦ rw f (omega arith)
    ]

lesser-fits : (b : ℕ → ℕ) (u m : ℕ) (o : Offer) → o.units ≤ u → lesser b u m o ≤ cost_with b u o
lesser-fits b u m o fits =
    let t : nat_le o.units u ≡ true = grind (arith, nat_tests) in rw t (omega arith)

-- ---- the whole fold

pub cheapest-at_most : (b : ℕ → ℕ) (u start : ℕ) (offers : List Offer) → cheapest b u start offers ≤ start
unfolding cheapest
cheapest-at_most b u start [] = omega arith
cheapest-at_most b u start (o ∷ offers) =
    let rest = cheapest-at_most b u (lesser b u start o) offers in
    let step = lesser-at_most b u start o in omega (arith, rest, step)

-- the least is at most what a supported strategy costs that fits
pub cheapest-least : (back forward : ℕ) (s : Site) (b : ℕ → ℕ) (u start : ℕ) (xs : List Strategy) (c : Strategy)
    → IsAmong c xs → supports s.op c ≡ true → units_at s c ≤ u
    → cheapest b u start (offers_among back forward s xs) ≤ cost_with b u (offer_of back forward s c)
unfolding cheapest offer_of
cheapest-least back forward s b u start [] c among ok fits = absurd among
cheapest-least back forward s b u start (x ∷ xs) c (inl is) ok fits =
    let supported : supports s.op x ≡ true = rw (← is) ok in
    let o = offer_of back forward s c in
    let rest = cheapest-at_most b u (lesser b u start o) (offers_among back forward s xs) in
    let step = lesser-fits b u start o fits in
    rw (among-supported back forward s x xs supported, ← is) (omega (arith, rest, step))
cheapest-least back forward s b u start (x ∷ xs) c (inr among) ok fits =
    elim (cases_Bool (supports s.op x)) [
      | inl t ↦ rw (among-supported back forward s x xs t)
          (cheapest-least back forward s b u (lesser b u start (offer_of back forward s x)) xs c among ok fits)
      | inr f ↦ rw (among-refused back forward s x xs f)
          (cheapest-least back forward s b u start xs c among ok fits)
    ]

-- an offer that fits and costs just so much attains it
pub attains-from : (b : ℕ → ℕ) (u m : ℕ) (o : Offer) → o.units ≤ u → cost_with b u o ≡ m → attains b u m o ≡ true
attains-from b u m o fits costs = grind (arith, nat_tests)

-- where no offer attains the least, it is the cost that the fold began with
pub cheapest-else : (b : ℕ → ℕ) (u m start : ℕ) (offers : List Offer) → m ≡ cheapest b u start offers
    → find (attains b u m) offers ≡ None → m ≡ start
unfolding cheapest
cheapest-else b u m start [] is none = is
cheapest-else b u m start (o ∷ offers) is none =
    elim (cases_Bool (attains b u m o)) [
      | inl t ↦ let never : Some o ≡ None = rw t at none in absurd (cc)
      | inr f ↦
          let rest : find (attains b u m) offers ≡ None = rw f at none in
          let stepped : m ≡ lesser b u start o = cheapest-else b u m (lesser b u start o) offers is rest in
          elim (cases_Bool (nat_le o.units u)) [
            | inl fits ↦
                let lesser_is : m ≡ min start (cost_with b u o) = rw fits at stepped in
                let not_it : (cost_with b u o == m) ≡ false = rw fits at f in
                grind (arith, nat_tests, lesser_is, not_it)
            | inr over ↦ rw over at stepped
          ]
    ]

-- ---- functions that agree up to the units

-- what is told of the nodes behind matters up to the units alone
pub cheapest-ext : (b b' : ℕ → ℕ) (u start : ℕ) (offers : List Offer) → ((v : ℕ) → v ≤ u → b v ≡ b' v)
    → cheapest b u start offers ≡ cheapest b' u start offers
unfolding cheapest
cheapest-ext b b' u start [] same = refl
cheapest-ext b b' u start (o ∷ offers) same =
    let here : b (u - o.units) ≡ b' (u - o.units) = same (u - o.units) (omega arith) in
    let step : lesser b u start o ≡ lesser b' u start o = rw here refl in
    rw step (cheapest-ext b b' u (lesser b' u start o) offers same)

find-ext : (p q : Offer → Bool) (offers : List Offer) → ((o : Offer) → p o ≡ q o) → find p offers ≡ find q offers
find-ext p q [] same = refl
find-ext p q (o ∷ offers) same = rw (same o, find-ext p q offers same) refl

pub over-ext : (back forward : ℕ) (s : Site) (b b' : ℕ → ℕ) (u : ℕ) → ((v : ℕ) → v ≤ u → b v ≡ b' v)
    → cost_over back forward s b u ≡ cost_over back forward s b' u
unfolding cost_over
over-ext back forward s b b' u same =
    rw (same u (omega arith)) (cheapest-ext b b' u _ (offers_of back forward s) same)

pub offer-ext : (back forward : ℕ) (s : Site) (b b' : ℕ → ℕ) (u : ℕ) → ((v : ℕ) → v ≤ u → b v ≡ b' v)
    → offer_over back forward s b u ≡ offer_over back forward s b' u
unfolding offer_over
offer-ext back forward s b b' u same =
    let m = cost_over back forward s b' u in
    let tests : (o : Offer) → attains b u m o ≡ attains b' u m o =
    λ o. let here : b (u - o.units) ≡ b' (u - o.units) = same (u - o.units) (omega arith) in rw here refl in
    rw (over-ext back forward s b b' u same, find-ext (attains b u m) (attains b' u m) (offers_of back forward s) tests)
    refl

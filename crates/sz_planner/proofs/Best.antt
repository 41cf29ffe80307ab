-- The list that is read off is the best choice.
--
-- The key idea: by induction on the nodes, whatever units are left. What a node's strategy leaves for the nodes
-- behind it is theirs to choose in, so the least over the node's strategies of its cost with their least is the
-- least over all choices. The list takes at each node the first strategy that attains it, so it is the first.
use Rattle.std.proofs.Common.{◌≡◌, ℕ, ◌+◌, ◌-◌, ◌≤◌, true, false, ◌==◌, nat_le, nat_lt}
use Rattle.std.proofs.Common.{inl, inr, List, [], ◌∷◌, Option, Some, None, unwrap_or, refl, sym, ap, ◌∙◌}
use Rattle.std.proofs.Common.{subst, arith}
use Rattle.std.specs.List.{find}
use Rattle.std.proofs.lemmas.Bool.{cases_Bool, false≢true}
use Rattle.std.proofs.lemmas.Bool.Decides.{nat_tests}
use Rattle.sz_spec.specs.declared.modes.Strategy.{Strategy}
use Rattle.sz_spec.specs.declared.modes.Strategy.TheVariants as strategy
use Rattle.sz_spec.specs.Modes.{supports, number_of}
use Rattle.sz_spec.specs.Shapes.{Site}
use Rattle.sz_planner.specs.Choices.{units_at, cost_at, is_choice, units_of, cost_of, comes_before, IsBestChoice}
use Rattle.sz_spec.proofs.Ways.{number-apart}
use Rattle.sz_planner.specs.declared.offers.Offer.{Offer}
use Rattle.sz_planner.specs.Offers.{offer_of, offers_among, offers_of, black_box_of, others}
use Rattle.sz_planner.specs.Costs.{cost_with, cost_over, least_cost, attains, offer_over, list_within}
use Rattle.sz_planner.proofs.Offered.{black_box-or_other, number-at_most_ten, and-both}
use Rattle.sz_planner.proofs.Offered.{found-is, found-first_other}
use Rattle.sz_planner.proofs.Cheapest.{cheapest-at_most, cheapest-least, cheapest-else, attains-from}

-- ---- one node

-- no supported strategy that fits costs less, with the nodes behind
over-least : (back forward : ℕ) (s : Site) (b : ℕ → ℕ) (u : ℕ) (c : Strategy)
    → supports s.op c ≡ true → units_at s c ≤ u
    → cost_over back forward s b u ≤ cost_at back forward s c + b (u - units_at s c)
unfolding cost_over offers_of black_box_of offer_of
over-least back forward s b u c ok fits =
    elim (black_box-or_other c) [
      | inl is ↦
          let start =
          cheapest-at_most b u (cost_at back forward s strategy.BlackBox + b u) (offers_of back forward s) in
          let P : Strategy → Type 0 =
          λ x. cost_over back forward s b u ≤ cost_at back forward s x + b (u - units_at s x) in
          let all_left : u - units_at s strategy.BlackBox ≡ u = omega arith in
          subst P (sym is) (rw all_left start)
      | inr among ↦ cheapest-least back forward s b u _ others c among ok fits
    ]

-- what is taken at a node: a supported strategy that fits and attains the least, the first of these
pub record IsTaken (back forward : ℕ) (s : Site) (b : ℕ → ℕ) (u : ℕ) (o : Offer) : Type 0 where
  pub is : o ≡ offer_of back forward s o.strategy
  pub supported : supports s.op o.strategy ≡ true
  pub fits : o.units ≤ u
  pub least : cost_with b u o ≡ cost_over back forward s b u
  pub first : (c : Strategy) → supports s.op c ≡ true → units_at s c ≤ u
      → cost_at back forward s c + b (u - units_at s c) ≡ cost_over back forward s b u
      → number_of o.strategy ≤ number_of c

-- what a find gives, or else black box
taken-from : (back forward : ℕ) (s : Site) (b : ℕ → ℕ) (u m : ℕ) (found : Option Offer)
    → m ≡ cost_over back forward s b u
    → find (attains b u m) (offers_among back forward s others) ≡ found
    → IsTaken back forward s b u (unwrap_or found (black_box_of back forward s))
unfolding cost_over offers_of black_box_of offer_of
taken-from back forward s b u m None m_is none =
    let start : m ≡ cost_at back forward s strategy.BlackBox + b u = cheapest-else b u m _ _ m_is none in
    let all_left : u - units_at s strategy.BlackBox ≡ u = omega arith in
    record {
      is = refl;
      supported = refl;
      fits = omega arith;
      least = rw all_left (sym start ∙ m_is);
      first = λ c ok fits costs.
          let number = number-at_most_ten c in
          elim (black_box-or_other c) [
            | inl is ↦ rw is (omega arith)
            | inr among ↦
                let passes = attains-from b u m (offer_of back forward s c) fits (costs ∙ sym m_is) in
                let w = found-first_other back forward s (attains b u m) c among ok passes in
                let never : None ≡ Some w.0 = sym none ∙ w.1 in absurd (cc)
          ];
    }
taken-from back forward s b u m (Some o) m_is some =
    let f = found-is back forward s (attains b u m) others o some in
    let parts = and-both (nat_le o.units u) (cost_with b u o == m) f.passes in
    let fits : o.units ≤ u = grind (arith, nat_tests, parts.0) in
    let costs : cost_with b u o ≡ m = grind (arith, nat_tests, parts.1) in
    record {
      is = f.is;
      supported = f.supported;
      fits = fits;
      least = costs ∙ m_is;
      first = λ c ok fits costs.
          elim (black_box-or_other c) [
            | inl is ↦ rw is (number-at_most_ten o.strategy)
            | inr among ↦
                let passes = attains-from b u m (offer_of back forward s c) fits (costs ∙ sym m_is) in
                let w = found-first_other back forward s (attains b u m) c among ok passes in
                let same : Some o ≡ Some w.0 = sym some ∙ w.1 in
                let it : o ≡ w.0 = cc in
                rw it w.2
          ];
    }

pub over-taken : (back forward : ℕ) (s : Site) (b : ℕ → ℕ) (u : ℕ)
    → IsTaken back forward s b u (offer_over back forward s b u)
unfolding offer_over offers_of
over-taken back forward s b u = taken-from back forward s b u (cost_over back forward s b u) _ refl refl

-- ---- all nodes

-- no choice within the units costs less than the least
pub all-least : (back forward : ℕ) (sites : List Site) (u : ℕ) (list : List Strategy)
    → is_choice sites list ≡ true → units_of sites list ≤ u
    → least_cost back forward sites u ≤ cost_of back forward sites list
unfolding least_cost
all-least back forward [] u list ok fits = omega arith
all-least back forward (s ∷ sites) u [] ok fits = absurd (false≢true ok)
all-least back forward (s ∷ sites) u (c ∷ list) ok fits =
    let parts = and-both (supports s.op c) (is_choice sites list) ok in
    let here = over-least back forward s (λ left. least_cost back forward sites left) u c parts.0 (omega arith) in
    let rest = all-least back forward sites (u - units_at s c) list parts.1 (omega arith) in
    omega (arith, here, rest)

-- the list is a choice within the units that costs the least
pub record IsRead (back forward : ℕ) (sites : List Site) (u : ℕ) (list : List Strategy) : Type 0 where
  pub choice : is_choice sites list ≡ true
  pub within : units_of sites list ≤ u
  pub least : cost_of back forward sites list ≡ least_cost back forward sites u
  pub first : (other : List Strategy) → is_choice sites other ≡ true → units_of sites other ≤ u
      → cost_of back forward sites other ≡ least_cost back forward sites u
      → comes_before other list ≡ false

-- another choice that costs as little does not come before
first-more : (back forward : ℕ) (s : Site) (sites : List Site) (u : ℕ) (o : Offer) (rest : List Strategy)
    → IsTaken back forward s (λ left. least_cost back forward sites left) u o
    → IsRead back forward sites (u - o.units) rest
    → (other : List Strategy) → is_choice (s ∷ sites) other ≡ true → units_of (s ∷ sites) other ≤ u
    → cost_of back forward (s ∷ sites) other ≡ least_cost back forward (s ∷ sites) u
    → comes_before other (o.strategy ∷ rest) ≡ false
unfolding least_cost offer_of
first-more back forward s sites u o rest taken read [] ok fits costs = absurd (false≢true ok)
first-more back forward s sites u o rest taken read (c ∷ list) ok fits costs =
    let parts = and-both (supports s.op c) (is_choice sites list) ok in
    let behind = all-least back forward sites (u - units_at s c) list parts.1 (omega arith) in
    let here = over-least back forward s (λ left. least_cost back forward sites left) u c parts.0 (omega arith) in
    let attained : cost_at back forward s c + least_cost back forward sites (u - units_at s c)
    ≡ cost_over back forward s (λ left. least_cost back forward sites left) u =
    omega (arith, here, behind, costs) in
    let number = taken.first c parts.0 (omega arith) attained in
    let not_less : nat_lt (number_of c) (number_of o.strategy) ≡ false = grind (arith, nat_tests, number) in
    elim (cases_Bool (number_of c == number_of o.strategy)) [
      | inl equal ↦
          let same : c ≡ o.strategy = number-apart c o.strategy (grind (arith, nat_tests, equal)) in
          let units : o.units ≡ units_at s c = rw same (ap (λ (q : Offer). q.units) taken.is) in
          let left : units_of sites list ≤ u - o.units = omega (arith, units) in
          let of_rest : cost_of back forward sites list ≡ least_cost back forward sites (u - o.units) =
          rw units (omega (arith, attained, behind, costs)) in
          rw (not_less, equal, read.first list parts.1 left of_rest) refl
      | inr differ ↦ rw (not_less, differ) refl
    ]

-- a node more
read-more : (back forward : ℕ) (s : Site) (sites : List Site) (u : ℕ) (o : Offer) (rest : List Strategy)
    → IsTaken back forward s (λ left. least_cost back forward sites left) u o
    → IsRead back forward sites (u - o.units) rest
    → IsRead back forward (s ∷ sites) u (o.strategy ∷ rest)
unfolding least_cost offer_of
read-more back forward s sites u o rest taken read =
    let units : o.units ≡ units_at s o.strategy = ap (λ (q : Offer). q.units) taken.is in
    let cost : o.cost ≡ cost_at back forward s o.strategy = ap (λ (q : Offer). q.cost) taken.is in
    record {
      choice = rw (taken.supported, read.choice) refl;
      within = omega (arith, units, read.within, taken.fits);
      least = omega (arith, cost, read.least, taken.least);
      first = first-more back forward s sites u o rest taken read;
    }

first-none : (other : List Strategy) → is_choice [] other ≡ true → comes_before other [] ≡ false
first-none [] ok = refl
first-none (c ∷ other) ok = refl

pub all-read : (back forward : ℕ) (sites : List Site) (u : ℕ)
    → IsRead back forward sites u (list_within back forward sites u)
unfolding least_cost list_within
all-read back forward [] u = record {
  choice = refl;
  within = omega arith;
  least = refl;
  first = λ other ok fits costs. first-none other ok;
}
all-read back forward (s ∷ sites) u =
    let behind = λ (left : ℕ). least_cost back forward sites left in
    let o = offer_over back forward s behind u in
    read-more back forward s sites u o _ (over-taken back forward s behind u)
    (all-read back forward sites (u - o.units))

-- the list that is read off is the best choice
pub all-best : (back forward : ℕ) (sites : List Site) (u : ℕ)
    → IsBestChoice back forward u sites (list_within back forward sites u)
all-best back forward sites u =
    let read = all-read back forward sites u in
    record {
      choice = read.choice;
      within = read.within;
      least = λ other ok fits. rw read.least (all-least back forward sites u other ok fits);
      first = λ other ok fits costs. read.first other ok fits (costs ∙ read.least);
    }

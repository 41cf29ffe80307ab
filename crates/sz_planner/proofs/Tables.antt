-- A node more in the table, and in the list that is read off from it.
--
-- The key idea: a node's costs depend on those of the nodes behind it up to the units alone, and there the table has
-- the least ones.
use Rattle.std.proofs.Common.{◌≡◌, ℕ, ◌+◌, ◌-◌, ◌≤◌, ◌<◌, inl, inr, List, [], ◌∷◌, ◌++◌, length, get_or, drop}
use Rattle.std.proofs.Common.{replicate, suc, append_assoc, Vec, Global, refl, sym, ap, ap₂, ◌∙◌, subst, arith}
use Rattle.std.proofs.Math.Seq.{drop-cons}
use Rattle.std.proofs.lemmas.List.{length-replicate, get_or-replicate}
use Rattle.std.proofs.lemmas.Grind.{common_steps}
use Rattle.std.proofs.lemmas.Bool.{cases_lt}
use Rattle.sz_spec.specs.declared.modes.Strategy.{Strategy}
use Rattle.sz_spec.specs.Shapes.{Site}
use Rattle.sz_planner.specs.Choices.{units_of}
use Rattle.sz_planner.specs.declared.offers.Offer.{Offer}
use Rattle.sz_planner.specs.Offers.{offer_of}
use Rattle.sz_planner.specs.Costs.{least_cost, offer_over, list_within, AreCostsOver, AreLeastCosts}
use Rattle.sz_planner.proofs.Cheapest.{over-ext, offer-ext}
use Rattle.sz_planner.proofs.Best.{over-taken}

-- ---- costs

-- the costs over the least costs of the nodes behind are least costs
costs-more : (back forward : ℕ) (s : Site) (sites : List Site) (limit : ℕ) (behind costs : List ℕ)
    → AreLeastCosts back forward sites limit behind → AreCostsOver back forward s behind limit costs
    → AreLeastCosts back forward (s ∷ sites) limit costs
unfolding least_cost
costs-more back forward s sites limit behind costs least over = record {
  len = over.len;
  least = λ u within. over.least u within
      ∙ over-ext back forward s (λ left. get_or behind left 0) (λ left. least_cost back forward sites left) u
      (λ v below. least.least v (omega arith));
  small = λ u within.
      let here = over.small u within in
      let rest = least.small u within in
      omega (arith, here, rest);
}

-- no node costs nothing
costs-none : (back forward limit : ℕ) (costs : List ℕ) → costs ≡ replicate (limit + 1) 0
    → AreLeastCosts back forward [] limit costs
unfolding least_cost
costs-none back forward limit costs is = record {
  len = rw is (length-replicate (limit + 1) 0);
  least = λ u within. rw is (get_or-replicate {A = ℕ} (limit + 1) u 0 0 (omega arith));
  small = λ u within. rw (is, get_or-replicate {A = ℕ} (limit + 1) u 0 0 (omega arith)) (omega arith);
}

-- ---- the table

drop-end : (n : ℕ) (sites : List Site) → n ≡ length sites → drop n sites ≡ []
drop-end n sites is = grind (arith, common_steps)

-- the table of no node
pub table-none : (back forward limit : ℕ) (sites : List Site) (table : List (Vec ℕ Global)) (v : Vec ℕ Global)
    → table ≡ v ∷ [] → v.items ≡ replicate (limit + 1) 0 → (j : ℕ) (d : Vec ℕ Global) → j ≤ 0
    → AreLeastCosts back forward (drop (length sites - j) sites) limit (get_or table j d).items
table-none back forward limit sites table v one zeros j d none =
    let first : j ≡ 0 = omega arith in
    let all : length sites - 0 ≡ length sites = omega arith in
    rw (first, all, drop-end (length sites) sites refl, one) (costs-none back forward limit v.items zeros)

-- the table of one node more
pub table-more : (back forward limit : ℕ) (sites : List Site) (done : ℕ) (s : Site) (table : List (Vec ℕ Global))
    (v w : Vec ℕ Global) → done < length sites → length table ≡ done + 1 → s ≡ get_or sites (length sites - 1 - done) s
    → ((j : ℕ) (d : Vec ℕ Global) → j ≤ done
    → AreLeastCosts back forward (drop (length sites - j) sites) limit (get_or table j d).items)
    → AreCostsOver back forward s (get_or table done w).items limit v.items
    → (j : ℕ) (d : Vec ℕ Global) → j ≤ done + 1
    → AreLeastCosts back forward (drop (length sites - j) sites) limit (get_or (table ++ v ∷ []) j d).items
table-more back forward limit sites done s table v w inside len here so_far over j d within =
    elim (cases_lt j (done + 1)) [
      | inl before ↦
          let kept : get_or (table ++ v ∷ []) j d ≡ get_or table j d = grind (arith, common_steps) in
          rw kept (so_far j d (omega arith))
      | inr last ↦
          let at : get_or (table ++ v ∷ []) j d ≡ v = grind (arith, common_steps) in
          let i = length sites - 1 - done in
          let place : length sites - j ≡ i = omega arith in
          let rest : suc i ≡ length sites - done = omega arith in
          let cut : drop i sites ≡ s ∷ drop (length sites - done) sites =
          drop-cons sites i s (omega arith) ∙ ap₂ (λ x n. x ∷ drop n sites) (sym here) rest in
          rw (at, place, cut) (costs-more back forward s (drop (length sites - done) sites) limit _ v.items
          (so_far done w (omega arith)) over)
    ]

-- ---- the list

-- the offer at a node begins the list, and leaves the rest of it what it leaves of the units
pub record IsNext (back forward : ℕ) (s : Site) (sites : List Site) (u : ℕ) (o : Offer) : Type 0 where
  pub list : list_within back forward (s ∷ sites) u ≡ o.strategy ∷ list_within back forward sites (u - o.units)
  pub units : (rest : List Strategy) → units_of (s ∷ sites) (o.strategy ∷ rest) ≡ o.units + units_of sites rest
  pub fits : o.units ≤ u

next-taken : (back forward : ℕ) (s : Site) (sites : List Site) (u : ℕ) (o : Offer)
    → o ≡ offer_over back forward s (λ left. least_cost back forward sites left) u
    → IsNext back forward s sites u o
unfolding list_within offer_of
next-taken back forward s sites u o is =
    let behind = λ (left : ℕ). least_cost back forward sites left in
    let taken = over-taken back forward s behind u in
    let units = ap (λ (q : Offer). q.units) taken.is in
    let P : Offer → Type 0 = λ q. IsNext back forward s sites u q in
    subst P (sym is) (record {
      list = refl;
      units = λ rest. omega (arith, units);
      fits = taken.fits;
    })

-- the offer that is found over a row of the table
pub next-found : (back forward : ℕ) (s : Site) (sites : List Site) (limit u : ℕ) (behind : List ℕ) (o : Offer)
    → AreLeastCosts back forward sites limit behind → u ≤ limit
    → o ≡ offer_over back forward s (λ left. get_or behind left 0) u → IsNext back forward s sites u o
next-found back forward s sites limit u behind o least within is =
    next-taken back forward s sites u o (is ∙ offer-ext back forward s (λ left. get_or behind left 0)
    (λ left. least_cost back forward sites left) u (λ v below. least.least v (omega arith)))

pub drop-next : (sites : List Site) (done : ℕ) (s : Site) → done < length sites → s ≡ get_or sites done s
    → drop done sites ≡ s ∷ drop (done + 1) sites
drop-next sites done s inside here =
    let next : suc done ≡ done + 1 = omega arith in
    drop-cons sites done s inside ∙ ap₂ (λ x n. x ∷ drop n sites) (sym here) next

-- a strategy more of the list, and its units
pub list-more : (back forward : ℕ) (s : Site) (sites : List Site) (u : ℕ) (o : Offer) (before all : List Strategy)
    → IsNext back forward s sites u o → before ++ list_within back forward (s ∷ sites) u ≡ all
    → (before ++ o.strategy ∷ []) ++ list_within back forward sites (u - o.units) ≡ all
list-more back forward s sites u o before all next is =
    let whole : before ++ (o.strategy ∷ list_within back forward sites (u - o.units)) ≡ all = rw next.list at is in
    append_assoc before (o.strategy ∷ []) (list_within back forward sites (u - o.units)) ∙ whole

pub units-more : (back forward : ℕ) (s : Site) (sites : List Site) (limit u : ℕ) (o : Offer) (all : ℕ)
    → IsNext back forward s sites u o → u ≤ limit
    → all ≡ (limit - u) + units_of (s ∷ sites) (list_within back forward (s ∷ sites) u)
    → all ≡ (limit - (u - o.units)) + units_of sites (list_within back forward sites (u - o.units))
units-more back forward s sites limit u o all next within is =
    let whole : all ≡ (limit - u) + units_of (s ∷ sites) (o.strategy ∷ list_within back forward sites (u - o.units)) =
    rw next.list at is in
    let parts = next.units (list_within back forward sites (u - o.units)) in
    let fits = next.fits in
    omega (arith, whole, parts, fits)

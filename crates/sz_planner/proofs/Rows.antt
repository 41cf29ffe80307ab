-- Rows of plans: the list that is read off for small flows, and which lists are not the best choice.
--
-- The key idea: at written-out operators and shapes every definition is a computation, so a table is its own proof.
-- Expected values by hand. That a list is not the best shows which part of the definition refuses it.
use Rattle.std.proofs.Common.{◌≡◌, ℕ, List, [], ◌∷◌, map, pos, refl, arith}
use Rattle.sz_cells.specs.Extent.{flat}
use Rattle.sz_spec.specs.declared.op.Op.TheVariants as op
use Rattle.sz_spec.specs.declared.modes.Strategy.{Strategy}
use Rattle.sz_spec.specs.declared.modes.Strategy.TheVariants as strategy
use Rattle.sz_spec.specs.Shapes.{Site}
use Rattle.sz_planner.specs.Choices.{IsBestChoice}
use Rattle.sz_planner.specs.Offers.{offer_of, others, offers_among, offers_of, black_box_of}
use Rattle.sz_planner.specs.Costs.{cheapest, cost_over, least_cost, offer_over, list_within}
use Rattle.sz_planner.proofs.Best.{all-best}

-- `clean` on 2 by 2 and on 4 by 4 cells, and `neg` on 1 by 3
abbrev small : Site
small = record { op = op.Clean (pos 10); ins = flat 2 2 ∷ []; out = flat 2 2 }

abbrev large : Site
large = record { op = op.Clean (pos 10); ins = flat 4 4 ∷ []; out = flat 4 4 }

abbrev negated : Site
negated = record { op = op.Neg; ins = flat 1 3 ∷ []; out = flat 1 3 }

-- ---- the list that is read off

-- how many asks come backward and forward, the nodes, how many units there are, and the list
abbrev Row : Type 0
Row = ℕ × ℕ × List Site × ℕ × List Strategy

abbrev AreReadOff : List Row → Type 0
AreReadOff rows = map (λ (r : Row). list_within r.0 r.1 r.2 r.3) rows ≡ map (λ (r : Row). r.4) rows

read_off : AreReadOff (
    (1, 0, small ∷ [], 0, strategy.BlackBox ∷ [])
    ∷ (1, 0, small ∷ [], 1, strategy.FullOneB ∷ [])
    ∷ (0, 1, small ∷ [], 1, strategy.FullOneF ∷ [])
    -- full_one_f costs the same
    ∷ (1, 1, small ∷ [], 1, strategy.FullOneB ∷ [])
    -- of two alike the first gets the unit, and of two unlike the one that it serves best
    ∷ (1, 0, small ∷ small ∷ [], 1, strategy.FullOneB ∷ strategy.BlackBox ∷ [])
    ∷ (1, 0, small ∷ large ∷ [], 1, strategy.BlackBox ∷ strategy.FullOneB ∷ [])
    ∷ (1, 0, negated ∷ [], 0, strategy.Map ∷ [])
    ∷ [])
unfolding offer_of others offers_among offers_of black_box_of cheapest cost_over least_cost offer_over list_within
read_off = refl

-- ---- the best, and what is not the best

pub best-second : IsBestChoice 1 0 1 (small ∷ large ∷ []) (strategy.BlackBox ∷ strategy.FullOneB ∷ [])
unfolding offer_of others offers_among offers_of black_box_of cheapest cost_over least_cost offer_over list_within
best-second = all-best 1 0 (small ∷ large ∷ []) 1

-- what is no choice, takes too much, costs more or comes later is not the best
pub not_best-unsupported : IsBestChoice 1 0 1 (small ∷ []) (strategy.Map ∷ []) → ⊥
not_best-unsupported best = let choice = best.choice in absurd (cc)

pub not_best-too_much : IsBestChoice 1 0 0 (small ∷ []) (strategy.FullOneB ∷ []) → ⊥
not_best-too_much best = omega (arith, best.within)

pub not_best-dear : IsBestChoice 1 0 1 (small ∷ []) (strategy.FullManyB ∷ []) → ⊥
not_best-dear best = let least = best.least (strategy.FullOneB ∷ []) refl (omega arith) in omega (arith, least)

pub not_best-node_by_node : IsBestChoice 1 0 1 (small ∷ large ∷ []) (strategy.FullOneB ∷ strategy.BlackBox ∷ []) → ⊥
not_best-node_by_node best =
    let least = best.least (strategy.BlackBox ∷ strategy.FullOneB ∷ []) refl (omega arith) in omega (arith, least)

pub not_best-later : IsBestChoice 1 1 1 (small ∷ []) (strategy.FullOneF ∷ []) → ⊥
not_best-later best = let first = best.first (strategy.FullOneB ∷ []) refl (omega arith) refl in absurd (cc)

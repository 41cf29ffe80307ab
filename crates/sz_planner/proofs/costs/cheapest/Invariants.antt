-- The key idea: the least so far is that of the offers so far.
use Rattle.std.proofs.Common.{◌≡◌, fold, take, slice_index}
use Rattle.sz_planner.specs.Costs.{lesser}
use Rattle.sz_planner.proofs.costs.cheapest.Given as goal

abbrev pub invariant-loop-offer : goal.invariant-loop-offer
invariant-loop-offer l =
    l.least ≡ fold (lesser (λ left. slice_index l.behind left) l.units) l.start (take l.offer-index l.offers)

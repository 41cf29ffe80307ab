-- The key idea: none of the offers so far passes, so the first is that of the rest.
use Rattle.std.proofs.Common.{◌≡◌, drop, slice_index}
use Rattle.std.specs.List.{find}
use Rattle.sz_planner.specs.Costs.{attains}
use Rattle.sz_planner.proofs.reading.first_of.Given as goal

abbrev pub invariant-loop-offer : goal.invariant-loop-offer
invariant-loop-offer l =
    find (attains (λ left. slice_index l.behind left) l.units l.least) l.offers
    ≡ find (attains (λ left. slice_index l.behind left) l.units l.least) (drop l.offer-index l.offers)

-- The key idea: the offers so far are those of the strategies so far.
use Rattle.std.proofs.Common.{◌≡◌, ◌≤◌, All, take}
use Rattle.sz_planner.specs.Offers.{offers_among}
use Rattle.sz_planner.specs.Costs.{most_at_a_node}
use Rattle.sz_planner.specs.declared.offers.Offer.{Offer}
use Rattle.sz_planner.proofs.offers.offers_among.Given as goal

abbrev pub invariant-loop-strategy : goal.invariant-loop-strategy
invariant-loop-strategy l = record {
  value : l.offers.items ≡ offers_among l.asks.back l.asks.forward l.node
      (take l.strategy-index l.strategies);
  small : All (λ (o : Offer). o.cost ≤ most_at_a_node) l.offers.items;
}

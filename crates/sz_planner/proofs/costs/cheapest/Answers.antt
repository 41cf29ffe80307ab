-- The key idea: the least of all offers.
use Rattle.std.proofs.Common.{arith}
use Rattle.std.proofs.lemmas.Grind.{common_steps}
use Rattle.sz_planner.specs.Costs.{cheapest}
use Rattle.sz_planner.proofs.costs.cheapest.Goals as goal

pub returns : goal.returns
unfolding cheapest
returns c = grind (arith, common_steps)

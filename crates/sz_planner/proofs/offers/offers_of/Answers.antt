-- The key idea: these are the offers among the other strategies.
use Rattle.sz_planner.specs.Offers.{offers_of, others}
use Rattle.sz_planner.proofs.offers.offers_of.Goals as goal

pub returns-clause-value : goal.returns-clause-value
unfolding offers_of others
returns-clause-value c = c.offers_among.ensures.value

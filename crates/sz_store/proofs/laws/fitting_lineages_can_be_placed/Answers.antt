-- The lemma is the law.
use Rattle.sz_store.proofs.Placing.{fitting-placed}
use Rattle.sz_store.proofs.laws.fitting_lineages_can_be_placed.Goals as goal

pub returns : goal.returns
returns c = fitting-placed

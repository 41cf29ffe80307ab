-- The law is the lemma.
use Rattle.sz_core.proofs.Ending.{order_lemma}
use Rattle.sz_core.proofs.laws.order_does_not_matter.Goals as goal

pub returns : goal.returns
returns c = order_lemma

-- The law is the lemma.
use Rattle.sz_core.proofs.Composing.{composed_lemma}
use Rattle.sz_core.proofs.laws.ended_asks_hold_the_composed_relation.Goals as goal

pub returns : goal.returns
returns c = composed_lemma

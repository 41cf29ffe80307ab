-- The law is the lemma.
use Rattle.sz_core.proofs.Ending.{ended_lemma}
use Rattle.sz_core.proofs.laws.ended_asks_hold_the_composition.Goals as goal

pub returns : goal.returns
returns c = ended_lemma

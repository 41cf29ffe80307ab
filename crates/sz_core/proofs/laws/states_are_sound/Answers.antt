-- The law is the lemma.
use Rattle.sz_core.proofs.Ending.{states_lemma}
use Rattle.sz_core.proofs.laws.states_are_sound.Goals as goal

pub returns : goal.returns
returns c = states_lemma

-- The law is the lemma.
use Rattle.sz_core.proofs.Sealing.{looks_lemma}
use Rattle.sz_core.proofs.laws.looks_are_from_stores_that_were_sealed.Goals as goal

pub returns : goal.returns
returns c = looks_lemma

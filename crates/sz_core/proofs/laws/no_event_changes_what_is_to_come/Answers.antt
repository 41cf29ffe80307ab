-- The law is the lemma.
use Rattle.sz_core.proofs.Ending.{coming_lemma}
use Rattle.sz_core.proofs.laws.no_event_changes_what_is_to_come.Goals as goal

pub returns : goal.returns
returns c = coming_lemma

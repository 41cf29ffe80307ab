-- The law is a lemma of the definitions.
use Rattle.sz_query.proofs.Asked.{asked-stay}
use Rattle.sz_query.proofs.laws.asked_views_stay.Goals as goal

pub returns : goal.returns
returns c = asked-stay

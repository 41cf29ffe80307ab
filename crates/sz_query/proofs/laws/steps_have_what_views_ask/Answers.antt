-- The law is a lemma of the definitions.
use Rattle.sz_query.proofs.Composed.{steps-asked}
use Rattle.sz_query.proofs.laws.steps_have_what_views_ask.Goals as goal

pub returns : goal.returns
returns c = steps-asked

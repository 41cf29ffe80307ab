-- The law is a lemma of the definitions.
use Rattle.sz_query.proofs.Composed.{answers-composed}
use Rattle.sz_query.proofs.laws.answers_are_the_composed_relation.Goals as goal

pub returns : goal.returns
returns c = answers-composed

-- The law is a lemma of the definitions.
use Rattle.sz_query.proofs.Composed.{answers-parts}
use Rattle.sz_query.proofs.laws.answers_go_by_parts.Goals as goal

pub returns : goal.returns
returns c = answers-parts

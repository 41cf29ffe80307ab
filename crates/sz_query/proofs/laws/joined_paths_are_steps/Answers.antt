-- The law is a lemma of the definitions.
use Rattle.sz_query.proofs.Joined.{joined-steps}
use Rattle.sz_query.proofs.laws.joined_paths_are_steps.Goals as goal

pub returns : goal.returns
returns c = joined-steps

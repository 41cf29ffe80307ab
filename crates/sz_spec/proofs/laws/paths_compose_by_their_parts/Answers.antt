-- The law is a lemma of the definitions.
use Rattle.sz_spec.proofs.Composition.{compose-append}
use Rattle.sz_spec.proofs.laws.paths_compose_by_their_parts.Goals as goal

pub returns : goal.returns
returns c = compose-append

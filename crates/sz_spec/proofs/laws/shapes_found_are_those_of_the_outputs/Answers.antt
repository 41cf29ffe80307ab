-- The law is a lemma of the definitions.
use Rattle.sz_spec.proofs.FlowShapes.{shapes-found}
use Rattle.sz_spec.proofs.laws.shapes_found_are_those_of_the_outputs.Goals as goal

pub returns : goal.returns
returns c = shapes-found

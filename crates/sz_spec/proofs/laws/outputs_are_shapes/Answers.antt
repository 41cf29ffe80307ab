-- The law is a lemma of the definitions.
use Rattle.sz_spec.proofs.OutputShapes.{output-right}
use Rattle.sz_spec.proofs.laws.outputs_are_shapes.Goals as goal

pub returns : goal.returns
returns c = output-right

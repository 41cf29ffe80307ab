-- The law is a lemma of the definitions.
use Rattle.sz_spec.proofs.FlowOutputs.{well-formed_is_right}
use Rattle.sz_spec.proofs.laws.well_formed_flows_are_right.Goals as goal

pub returns : goal.returns
returns c = well-formed_is_right

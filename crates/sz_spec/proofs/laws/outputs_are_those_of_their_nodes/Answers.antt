-- Each clause is a lemma of the definitions.
use Rattle.sz_spec.proofs.FlowOutputs.{evaluations-length, evaluations-at}
use Rattle.sz_spec.proofs.laws.outputs_are_those_of_their_nodes.Goals as goal

pub returns-clause-count : goal.returns-clause-count
returns-clause-count c = evaluations-length

pub returns-clause-value : goal.returns-clause-value
returns-clause-value c = evaluations-at

-- Each clause is a lemma of the definitions.
use Rattle.sz_spec.proofs.OutputValues.{output-length, output-value}
use Rattle.sz_spec.proofs.laws.outputs_hold_their_values.Goals as goal

pub returns-clause-count : goal.returns-clause-count
returns-clause-count c = output-length

pub returns-clause-values : goal.returns-clause-values
returns-clause-values c = output-value

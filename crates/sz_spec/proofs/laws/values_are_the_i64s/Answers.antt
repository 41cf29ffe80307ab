-- Each clause is a lemma of the definitions.
use Rattle.sz_spec.proofs.OutputValues.{fit-value, fit-empty}
use Rattle.sz_spec.proofs.laws.values_are_the_i64s.Goals as goal

pub returns-clause-value : goal.returns-clause-value
returns-clause-value c = fit-value

pub returns-clause-empty : goal.returns-clause-empty
returns-clause-empty c = fit-empty

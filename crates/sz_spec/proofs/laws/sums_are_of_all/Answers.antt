-- Each clause is a lemma of the definitions.
use Rattle.sz_spec.proofs.OutputValues.{sum-total, sum-empty}
use Rattle.sz_spec.proofs.laws.sums_are_of_all.Goals as goal

pub returns-clause-numbers : goal.returns-clause-numbers
returns-clause-numbers c = sum-total

pub returns-clause-empty : goal.returns-clause-empty
returns-clause-empty c = sum-empty

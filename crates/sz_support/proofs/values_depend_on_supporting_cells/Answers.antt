-- Each clause is a lemma of the definitions.
use Rattle.sz_support.proofs.OneOperator.{value-supported, supports-kept}
use Rattle.sz_support.proofs.values_depend_on_supporting_cells.Goals as goal

pub returns-clause-value : goal.returns-clause-value
returns-clause-value c = value-supported

pub returns-clause-supports : goal.returns-clause-supports
returns-clause-supports c = supports-kept

-- Each clause is a lemma of the definitions.
use Rattle.sz_spec.proofs.Ways.{number-apart, order-once}
use Rattle.sz_spec.proofs.laws.orders_have_each_strategy_once.Goals as goal

pub returns-clause-apart : goal.returns-clause-apart
returns-clause-apart c = number-apart

pub returns-clause-once : goal.returns-clause-once
returns-clause-once c = order-once

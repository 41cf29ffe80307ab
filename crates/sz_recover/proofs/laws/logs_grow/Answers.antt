-- The groups that act are those of the log.
use Rattle.sz_recover.proofs.Grown.{logs-grow, made-logs-grow, logs-grow-or-stay}
use Rattle.sz_recover.proofs.laws.logs_grow.Goals as goal

pub returns-clause-grow : goal.returns-clause-grow
returns-clause-grow c = logs-grow

pub returns-clause-made : goal.returns-clause-made
returns-clause-made c = made-logs-grow

pub returns-clause-stay : goal.returns-clause-stay
returns-clause-stay c = logs-grow-or-stay

-- Each clause is a lemma of the definitions.
use Rattle.sz_refresh.proofs.Affected.{affected-forward, affected-count, affected-at}
use Rattle.sz_refresh.proofs.laws.affected_cells_are_those_reached.Goals as goal

pub returns-clause-forward : goal.returns-clause-forward
returns-clause-forward c = affected-forward

pub returns-clause-count : goal.returns-clause-count
returns-clause-count c = affected-count

pub returns-clause-each : goal.returns-clause-each
returns-clause-each c = affected-at

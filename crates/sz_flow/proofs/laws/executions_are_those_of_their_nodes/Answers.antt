-- Each clause is a lemma of the definitions.
use Rattle.sz_flow.proofs.Executions.{executions-count, outputs-evaluations, executions-at}
use Rattle.sz_flow.proofs.laws.executions_are_those_of_their_nodes.Goals as goal

pub returns-clause-count : goal.returns-clause-count
returns-clause-count c = executions-count

pub returns-clause-outputs : goal.returns-clause-outputs
returns-clause-outputs c = outputs-evaluations

pub returns-clause-each : goal.returns-clause-each
returns-clause-each c = executions-at

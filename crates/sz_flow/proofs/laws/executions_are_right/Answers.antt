-- The law is a lemma of the definitions.
use Rattle.sz_flow.proofs.Executions.{executions-right}
use Rattle.sz_flow.proofs.laws.executions_are_right.Goals as goal

pub returns : goal.returns
returns c = executions-right

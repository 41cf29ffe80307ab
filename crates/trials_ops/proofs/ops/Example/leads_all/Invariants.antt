-- Each turn takes a row.
use Rattle.std.proofs.Common.{length}
use Rattle.trials_ops.proofs.ops.Example.leads_all.Given as goal

abbrev pub decreases-loop-rest : goal.decreases-loop-rest
decreases-loop-rest l = length l.rest

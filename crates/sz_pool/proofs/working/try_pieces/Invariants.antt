-- The pieces so far were tried, and the rest of the task is as it was.
use Rattle.std.specs.Arc.{arc_value}
use Rattle.sz_pool.specs.Tasks.{IsSameTask}
use Rattle.sz_pool.specs.Tries.{HasTriedAll}
use Rattle.sz_pool.proofs.working.try_pieces.Given as goal

abbrev pub invariant-loop-k : goal.invariant-loop-k
invariant-loop-k g l = record {
  same : IsSameTask l.initial.task l.task;
  tried : HasTriedAll (arc_value l.initial.task.at).out l.k l.refused l.initial.task.claim_pass l.task.claim_pass
      l.initial.task.pass l.task.pass l.initial.tally l.tally;
}

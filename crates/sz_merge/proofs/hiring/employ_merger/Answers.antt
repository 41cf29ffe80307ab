-- A task moves between threads. Part by part, since what the call asks is of the same parts under another name.
use denote.Param.Send.{param_send}
use Rattle.sz_merge.specs.contracts.task.MergeTask as MergeTask
use Rattle.sz_merge.proofs.Crossing.{task_send}
use Rattle.sz_merge.proofs.hiring.employ_merger.Goals as goal

pub start-requires-send-M : goal.start-requires-send-M
start-requires-send-M g c κs within =
    let s = param_send 0 MergeTask.the_row task_send in record { owned = s.owned; leaving = s.leaving }

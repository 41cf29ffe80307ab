-- A task moves between threads.
--
-- The key idea: a type may cross where its fields may, so a task follows from those that it holds.
use denote.Param.Send.{IsSend, sendable}
use Rattle.std.proofs.Crossing.{crosses}
use Rattle.sz_shelf.proofs.Crossing.{at_send, at_sync, fields, pass_send, shelf_send, shelf_sync}
use Rattle.sz_merge.specs.contracts.task.MergeTask as MergeTask

pub task_send : IsSend MergeTask.the_row
task_send =
    search (at_send, at_sync, shelf_send, shelf_sync, pass_send, sendable, crosses, fields) depth 60 fits 5000

-- The runs are as before, and what is kept of them is lent.
use Rattle.std.proofs.Common.{◌≡◌, map, length}
use Rattle.std.specs.Arc.{arc_value}
use Rattle.sz_flow.specs.Executions.{execution_of}
use Rattle.sz_versions.specs.Stores.{keeping_of}
use Rattle.sz_versions.specs.Lending.{AreLent}
use Rattle.sz_versions.proofs.tasks.Hands.hand_out.Given as goal

abbrev pub invariant-loop-node : goal.invariant-loop-node
invariant-loop-node g l = record {
  runs : map execution_of (arc_value l.run-inside.runs).items ≡ l.fn.run.executions;
  stores : AreLent l.fn.run.kept (map keeping_of l.run-inside.stores.items);
  end : l.node-end ≡ length l.lists;
}

-- The runs are those of the executions that they were.
use Rattle.std.proofs.Common.{◌≡◌, map, length}
use Rattle.sz_flow.specs.Executions.{execution_of}
use Rattle.sz_versions.proofs.building.prepare_each.Given as goal

abbrev pub invariant-loop-node : goal.invariant-loop-node
invariant-loop-node l = record {
  end : l.node-end ≡ length l.runs;
  same : map execution_of l.runs ≡ map execution_of l.fn.runs;
}

-- What is kept of the nodes before the number.
use Rattle.std.proofs.Common.{◌≡◌, false, map, take, length}
use Rattle.sz_flow.specs.Executions.{execution_of}
use Rattle.sz_versions.specs.Stores.{AreKeptOf, keeping_of}
use Rattle.sz_versions.proofs.building.begun.Given as goal

abbrev pub invariant-loop-node : goal.invariant-loop-node
invariant-loop-node l = record {
  end : l.node-end ≡ length l.runs;
  kept :
      AreKeptOf false (map execution_of (take l.node l.runs)) (take l.node l.lists)
      (map keeping_of l.stores.items);
}

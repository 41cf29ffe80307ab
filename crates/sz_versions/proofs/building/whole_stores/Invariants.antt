-- The stores of the nodes before the number are whole, and of what was begun nothing but passes changed.
use Rattle.std.proofs.Common.{◌≡◌, true, map, take, length}
use Rattle.sz_flow.specs.Executions.{execution_of}
use Rattle.sz_versions.specs.Stores.{AreKeptOf, keeping_of}
use Rattle.sz_versions.specs.Lending.{AreKeptStill}
use Rattle.sz_versions.proofs.building.whole_stores.Given as goal

abbrev pub invariant-loop-node : goal.invariant-loop-node
invariant-loop-node g l = record {
  end : l.node-end ≡ length l.runs;
  whole :
      AreKeptOf true (map execution_of (take l.node l.runs)) (take l.node l.lists) (map keeping_of l.stores.items);
  still : AreKeptStill (map keeping_of l.fn.begun) (map keeping_of l.begun);
}

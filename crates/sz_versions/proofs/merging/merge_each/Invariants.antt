-- The nodes before the number are merged, and their numbers are told; what is seen of what is kept is as it was.
use Rattle.std.proofs.Common.{◌≡◌, map, take, length}
use Rattle.sz_flow.specs.Executions.{execution_of}
use Rattle.sz_versions.specs.Stores.{keeping_of}
use Rattle.sz_versions.specs.Merging.{AreMergedNodes, kinds_in_nodes}
use Rattle.sz_versions.proofs.merging.merge_each.Given as goal

abbrev pub invariant-loop-node : goal.invariant-loop-node
invariant-loop-node g l = record {
  end : l.node-end ≡ length l.runs;
  same : map keeping_of l.kept ≡ map keeping_of l.fn.kept;
  merged :
      AreMergedNodes (take l.node (map execution_of l.runs)) (take l.node l.lists)
      (take l.node (map keeping_of l.fn.kept)) (map keeping_of l.merged.items);
  kinds :
      l.kinds.items
      ≡ kinds_in_nodes (take l.node (map execution_of l.runs)) (take l.node l.lists)
      (take l.node (map keeping_of l.fn.kept));
}

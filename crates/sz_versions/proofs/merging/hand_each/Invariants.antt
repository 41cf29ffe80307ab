-- What is seen of what is kept is as it was.
use Rattle.std.proofs.Common.{◌≡◌, map, length}
use Rattle.sz_versions.specs.Stores.{keeping_of}
use Rattle.sz_versions.proofs.merging.hand_each.Given as goal

abbrev pub invariant-loop-node : goal.invariant-loop-node
invariant-loop-node g l = record {
  end : l.node-end ≡ length l.runs;
  same : map keeping_of l.kept ≡ map keeping_of l.fn.kept;
}

-- The nodes before the index were read, and their lists and stores fit.
use Rattle.std.proofs.Common.{◌≡◌, map, take, drop}
use Rattle.sz_bodies.specs.Fitting.{FitNodes, lineages, parts_of}
use Rattle.sz_bodies.specs.Taking.{site_over}
use Rattle.sz_bodies.proofs.Sequence.{AreRead}
use Rattle.sz_bodies.proofs.nodes.take_nodes.Given as goal

abbrev pub invariant-loop-node : goal.invariant-loop-node
invariant-loop-node g l = record {
  read : AreRead l.format l.base l.outputs l.nodes (drop l.node-index l.nodes) l.bytes l.at l.place
      (parts_of l.lists.items (lineages l.stores.items));
  fit : FitNodes (map (site_over l.base l.outputs) (take l.node-index l.nodes)) l.lists.items
      (lineages l.stores.items);
  index : l.index ≡ l.node-index;
}

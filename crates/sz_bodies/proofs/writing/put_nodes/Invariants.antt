-- The nodes before the number stand behind what was there, whatever follows.
use Rattle.std.proofs.Common.{◌≡◌, ◌<◌, ◌++◌, List, ℕ, length, take, All}
use Rattle.sz_spec.specs.Shapes.{Site}
use Rattle.sz_bodies.specs.Bodies.{BeginNodes}
use Rattle.sz_bodies.specs.Fitting.{FitNodes, lineages, parts_of}
use Rattle.sz_bodies.proofs.writing.put_nodes.Given as goal

abbrev pub invariant-loop-node : goal.invariant-loop-node
invariant-loop-node l = record {
  end : l.node-end ≡ length l.stores;
  short : All (λ x. length x.list < 256) (parts_of (take l.node l.lists) (take l.node (lineages l.stores)));
  front : (more : List ℕ) × (l.to.items ≡ l.fn.to.items ++ more);
  nodes : (sites : List Site) → FitNodes sites l.lists (lineages l.stores) → (rest : List ℕ)
      → BeginNodes l.format (take l.node sites) (l.to.items ++ rest) (length l.fn.to.items) (length l.to.items)
      (parts_of (take l.node l.lists) (take l.node (lineages l.stores)));
}

-- There is a place for each node so far, and nothing is read.
use Rattle.std.proofs.Common.{◌≡◌, length, None}
use Rattle.std.specs.List.{All}
use Rattle.sz_bodies.proofs.tries.untried_nodes.Given as goal

abbrev pub invariant-loop-node : goal.invariant-loop-node
invariant-loop-node l = (length l.tries.items ≡ l.node-index) × All (λ t. t.taken ≡ None) l.tries.items

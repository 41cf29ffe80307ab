-- One place more.
use Rattle.std.proofs.Common.{◌≡◌, None}
use Rattle.sz_bodies.specs.declared.tries.TriedNode.{TriedNode}
use Rattle.sz_bodies.proofs.NodesPut.{one-pushed}
use Rattle.sz_bodies.proofs.tries.untried_nodes.Goals as goal

pub loop-node-preserved : goal.loop-node-preserved
loop-node-preserved c =
    one-pushed (λ (t : TriedNode). t.taken ≡ None) c.loop-node.tries.items c.push.new.self.items c.untried.result
    c.loop-node.node-index c.in_ok-push.ensures.items c.loop-node.invariant c.untried.ensures

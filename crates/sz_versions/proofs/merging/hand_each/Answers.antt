-- Each node is handed as what can be merged; nothing is seen of it.
use Rattle.std.proofs.Common.{◌<◌, length, refl, arith, false, subst}
use Rattle.sz_flow.specs.Executions.{execution_of}
use Rattle.sz_versions.specs.Merging.{IsMergeable}
use Rattle.sz_versions.specs.Stores.{keeping_of}
use Rattle.sz_versions.specs.declared.runs.NodeKeeping.{NodeKeeping}
use Rattle.sz_versions.proofs.MergedNodes.{few-lists, few-kept, node-at, same-at}
use Rattle.sz_versions.proofs.merging.hand_each.Goals as goal

pub bounds-lists-node : goal.bounds-lists-node
bounds-lists-node g c =
    few-lists false c.args.runs.now c.args.lists.now c.args.kept.now c.loop-node.node c.requires
    (omega (arith, c.loop-node-test.true, c.loop-node.invariant.end))

pub bounds-kept-node : goal.bounds-kept-node
bounds-kept-node g c =
    few-kept false c.args.runs.now c.args.lists.now c.args.kept.now c.loop-node.kept c.loop-node.node c.requires
    c.loop-node.invariant.same
    (omega (arith, c.loop-node-test.true, c.loop-node.invariant.end))

pub hand_node-requires : goal.hand_node-requires
hand_node-requires g c =
    let runs = c.args.runs.now in
    let few : c.loop-node.node < length runs = omega (arith, c.loop-node-test.true, c.loop-node.invariant.end) in
    let here = node-at false runs c.args.lists.now c.args.kept.now c.loop-node.kept c.loop-node.node
    c.index-runs-node.result c.index-lists-node.result c.index-kept-node.result c.requires
    c.loop-node.invariant.same few c.index-runs-node.is c.index-lists-node.is c.index-kept-node.is in
    rw c.as_slice.ensures
    (subst (λ (x : NodeKeeping). IsMergeable false (execution_of c.index-runs-node.result) c.index-lists-node.result
    (keeping_of x)) c.index-kept-node.is here.own)

pub loop-node-preserved : goal.loop-node-preserved
loop-node-preserved g c = record {
  end = refl;
  same = same-at c.args.kept.now c.loop-node.kept c.loop-node.node c.hand_node.new.kept c.index-kept-node.result
      c.loop-node.invariant.same c.hand_node.ensures;
}

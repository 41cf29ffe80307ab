-- Each node in turn is right and fits, and is executed over the outputs so far.
use Rattle.std.proofs.Common.{◌≡◌, ℕ, ◌∷◌, [], List, length, map, ap, subst, sym, ◌∙◌}
use Rattle.std.specs.Arc.{arc_value}
use Rattle.std.proofs.lemmas.List.{map-append, length-map}
use Rattle.sz_spec.specs.LawsFlows.{IsRightNode}
use Rattle.sz_flow.specs.declared.node_run.NodeRun.{NodeRun}
use Rattle.sz_flow.specs.Executions.{execution, execution_of}
use Rattle.sz_flow.specs.Nodes.{inputs_among, NodeFits}
use Rattle.sz_flow.proofs.Nodes.{IsNode, node-of, node-right, so_far-fits, so_far-next}
use Rattle.sz_flow.proofs.run.run_all.Given.{Over}
use Rattle.sz_flow.proofs.run.run_all.Goals.{After-deref}
use Rattle.sz_flow.proofs.run.run_all.Goals as goal

-- the node is that of its number
here : (g : Over) (c : After-deref g) → IsNode c.args.flow.now c.loop-node.node-index c.node-item.result
here g c =
    node-of c.args.flow.now c.nodes-node-items.result.now c.loop-node.node-index c.node-item.result
    c.loop-node.invariant.0 c.loop-node-test.true c.node-item.is

pub run_node-requires-clause-right : goal.run_node-requires-clause-right
run_node-requires-clause-right g c κs within =
    let flow = c.args.flow.now in
    let n = c.loop-node.node-index in
    let x = c.node-item.result in
    let at = here g (goal.at.run_node-requires-clause-right g c).After-deref in
    let count : n ≡ length c.deref.result.now =
    sym c.loop-node.invariant.1.count ∙ length-map c.loop-node.runs.items (λ r. arc_value r.out)
    ∙ sym (ap length c.deref.ensures.value) in
    subst (λ (m : ℕ). IsRightNode m (length c.deref.result.now) x) (sym c.requires.count)
    (subst (λ (m : ℕ). IsRightNode flow.inputs m x) count (node-right flow n x c.requires.well_formed at))

pub run_node-requires-clause-fits : goal.run_node-requires-clause-fits
run_node-requires-clause-fits g c κs within =
    let base = map (λ a. arc_value a) c.args.base.now in
    let runs = c.loop-node.runs.items in
    subst (λ (rs : List NodeRun). NodeFits base (map (λ r. arc_value r.out) rs) c.node-item.result)
    (sym c.deref.ensures.value)
    (so_far-fits c.args.flow.now base (map execution_of runs) (map (λ r. arc_value r.out) runs) c.loop-node.node-index
    c.node-item.result c.loop-node.invariant.1 (here g (goal.at.run_node-requires-clause-fits g c).After-deref))

pub loop-node-preserved : goal.loop-node-preserved
loop-node-preserved g c =
    let base = map (λ a. arc_value a) c.args.base.now in
    let x = c.node-item.result in
    let runs = c.loop-node.runs.items in
    let at = here g (goal.at.loop-node-preserved g c).After-deref in
    let e = execution_of c.in_ok-run.run' in
    let made = subst (λ (rs : List NodeRun). e ≡ execution x.op (inputs_among base
    (map (λ r. arc_value r.out) rs) x)) c.deref.ensures.value c.in_ok-run.ensures in
    let next = so_far-next c.args.flow.now base (map execution_of runs) (map (λ r. arc_value r.out) runs)
    c.loop-node.node-index x e c.loop-node.invariant.1 at made in (
      c.loop-node.invariant.0,
      rw (
        c.in_ok-push.ensures.items,
        map-append execution_of runs (c.in_ok-run.run' ∷ []),
        map-append (λ r. arc_value r.out) runs (c.in_ok-run.run' ∷ []),
      ) next,
    )

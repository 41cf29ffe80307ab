-- Each node of a well-formed flow takes base arrays and the outputs of earlier nodes.
use Rattle.std.proofs.Common.{◌≡◌, List, [], length, map, ap, sym, ◌∙◌, arith}
use Rattle.std.specs.Prelude.{Ok, fold}
use Rattle.std.proofs.lemmas.Grind.{common_steps}
use Rattle.std.proofs.lemmas.List.{length-map}
use Rattle.sz_cells.specs.Extent.{Extent}
use Rattle.sz_spec.specs.Shapes.{shape_of}
use Rattle.sz_spec.specs.FlowShapes.{node_inputs, source_shape, with_node}
use Rattle.sz_spec.proofs.FlowShapes.{node-right, node-fits, node-breaks}
use Rattle.sz_spec.proofs.flow_shapes.output_shapes.Goals.{After-shape_of}
use Rattle.sz_spec.proofs.flow_shapes.output_shapes.Goals as goal

pub input_shapes-requires : goal.input_shapes-requires
input_shapes-requires c =
    let right = node-right c.args.flow.now c.nodes-node-items.result.now c.loop-number.number c.node-item.result
    c.requires.right c.nodes-node-items.ensures c.loop-number-test.true c.node-item.is in
    rw (c.requires.count, c.deref.ensures.value, c.loop-number.invariant.1, c.as_slice.ensures) right.1

pub shape_of-requires-in-loop-number-clause-arity : goal.shape_of-requires-in-loop-number-clause-arity
shape_of-requires-in-loop-number-clause-arity c =
    let right = node-right c.args.flow.now c.nodes-node-items.result.now c.loop-number.number c.node-item.result
    c.requires.right c.nodes-node-items.ensures c.loop-number-test.true c.node-item.is in
    ap length (c.deref-in-loop-number.ensures.value ∙ c.in_ok-inputs.ensures)
    ∙ length-map c.as_slice.result.now (source_shape c.args.base.now c.deref.result.now)
    ∙ ap length c.as_slice.ensures ∙ right.0

pub shape_of-requires-in-loop-number-clause-parameters : goal.shape_of-requires-in-loop-number-clause-parameters
shape_of-requires-in-loop-number-clause-parameters c =
    let right = node-right c.args.flow.now c.nodes-node-items.result.now c.loop-number.number c.node-item.result
    c.requires.right c.nodes-node-items.ensures c.loop-number-test.true c.node-item.is in
    right.2

-- the shape rule was asked about the shapes of the node's inputs
asked : (c : After-shape_of) → shape_of c.node-item.result.op (node_inputs c.args.base.now c.loop-number.outputs.items
    c.node-item.result) ≡ c.shape_of.result
asked c =
    ap (shape_of c.node-item.result.op)
    (sym (c.deref-in-loop-number.ensures.value ∙ c.in_ok-inputs.ensures
    ∙ ap (λ (outputs : List Extent). map (source_shape c.args.base.now outputs) c.as_slice.result.now)
    c.deref.ensures.value
    ∙ ap (map (source_shape c.args.base.now c.loop-number.outputs.items)) c.as_slice.ensures))
    ∙ sym c.shape_of.ensures

pub returns-in-Err : goal.returns-in-Err
returns-in-Err c =
    let breaks = asked (goal.at.returns-in-Err c).After-shape_of ∙ c.in-Err.is in
    sym (ap (fold (with_node c.args.base.now) (Ok [])) (sym c.nodes-node-items.ensures)
    ∙ node-breaks c.args.base.now c.loop-number.outputs.items c.nodes-node-items.result.now c.loop-number.number
    c.node-item.result _ c.loop-number-test.true c.node-item.is c.loop-number.invariant.0
    c.loop-number.invariant.1 breaks)

pub loop-number-preserved : goal.loop-number-preserved
loop-number-preserved c =
    let fits = asked (goal.at.loop-number-preserved c).After-shape_of ∙ c.in-Ok.is in
    let more = node-fits c.args.base.now c.loop-number.outputs.items c.nodes-node-items.result.now
    c.loop-number.number c.node-item.result c.in-Ok.shape c.loop-number-test.true c.node-item.is
    c.loop-number.invariant.0 fits in (
      more ∙ ap (λ (es : List Extent). Ok es) (sym c.in_ok-push-in-Ok.ensures.items),
      grind (arith, common_steps, c.in_ok-push-in-Ok.ensures.items, c.loop-number.invariant.1),
    )

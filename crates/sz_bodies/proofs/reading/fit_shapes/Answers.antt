-- The flow's check had no fault, so its nodes stand between the shapes that were found.
use Rattle.std.proofs.Common.{◌≡◌, List, length, ◌∙◌, sym, ap, arith, true, subst, All}
use Rattle.std.specs.Prelude.{Ok}
use Rattle.std.specs.Result.{result_map_both}
use Rattle.std.proofs.lemmas.List.{length-map}
use Rattle.sz_cells.specs.Extent.{Extent}
use Rattle.sz_spec.specs.Flows.{Graph, is_well_formed}
use Rattle.sz_spec.specs.FlowShapes.{output_shapes}
use Rattle.sz_catalogue.specs.Holdings.{Base}
use Rattle.sz_bodies.specs.Taking.{Begun, IsFitting}
use Rattle.sz_catalogue.proofs.FlowSites.{few-outputs, nodes-fit}
use Rattle.sz_bodies.proofs.Shapes.{well-of}
use Rattle.sz_bodies.proofs.reading.fit_shapes.Goals as goal

pub cells_of-requires : goal.cells_of-requires
cells_of-requires c =
    let flow : Graph = c.deref-flow.result.now in
    let well : is_well_formed flow ≡ true =
    well-of c.check.result flow (sym c.is_err.ensures.value ∙ c.if-is_err.false) c.check.ensures in
    let fits : output_shapes flow c.deref-2.result.now ≡ Ok c.in-Ok.outputs.items =
    sym c.in_ok-outputs.ensures ∙ ap (λ r. result_map_both (λ v. v.items) (λ n. n) r) c.in-Ok.is in
    omega (
      arith,
      ap length c.deref-3.ensures.value,
      few-outputs flow c.deref-2.result.now c.in-Ok.outputs.items well fits,
    )

pub returns-clause-nodes : goal.returns-clause-nodes
returns-clause-nodes c =
    let flow : Graph = c.deref-flow.result.now in
    let outs : List Extent = c.in-Ok.outputs.items in
    let well : is_well_formed flow ≡ true =
    well-of c.check.result flow (sym c.is_err.ensures.value ∙ c.if-is_err.false) c.check.ensures in
    let fits : output_shapes flow c.deref-2.result.now ≡ Ok outs =
    sym c.in_ok-outputs.ensures ∙ ap (λ r. result_map_both (λ v. v.items) (λ n. n) r) c.in-Ok.is in
    let same : flow ≡ c.args.head.now.flow = c.deref-flow.ensures ∙ ap (λ (h : Begun). h.flow) c.head.view_is in
    let count : length c.deref-2.result.now ≡ flow.inputs = omega (
      arith,
      ap length c.deref-2.ensures.value,
      ap length c.in_ok-base.ensures,
      length-map c.deref.result.now (λ (b : Base). b.array.extent),
      c.deref.ensures.len,
      c.len.ensures,
      c.inputs.ensures,
      c.if-len-inputs.false,
    ) in
    subst (λ (es : List Extent). All (IsFitting es outs) c.args.head.now.flow.nodes) c.deref-2.ensures.value
    (subst (λ (f : Graph). All (IsFitting c.deref-2.result.now outs) f.nodes) same
    (nodes-fit flow c.deref-2.result.now outs well count fits))

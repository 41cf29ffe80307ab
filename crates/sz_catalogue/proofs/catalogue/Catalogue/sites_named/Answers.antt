-- The flow is held, so are the base arrays, and there are as many as it takes: its nodes stand between their shapes.
use Rattle.std.proofs.Common.{◌≡◌, ℕ, List, true, length, map, All, Some, subst, ap, ap₂, sym, ◌∙◌}
use Rattle.std.specs.Prelude.{Ok}
use Rattle.std.specs.Result.{result_map_both}
use Rattle.std.proofs.lemmas.Result.{IfOk-weaker}
use Rattle.sz_cells.specs.Extent.{Extent}
use Rattle.sz_spec.specs.declared.flow.Node.{Node}
use Rattle.sz_spec.specs.Flows.{Graph, is_well_formed}
use Rattle.sz_spec.specs.FlowShapes.{output_shapes}
use Rattle.sz_catalogue.specs.Holdings.{Holdings, flow_named, shapes_of}
use Rattle.sz_catalogue.specs.Starts.{bases_of}
use Rattle.sz_catalogue.specs.Sites.{site_over, IsFitting}
use Rattle.sz_catalogue.proofs.FlowSites.{enough, nodes-fit, started-sites}
use Rattle.sz_catalogue.proofs.catalogue.Catalogue.sites_named.Goals as goal

pub output_shapes-requires-clause-count : goal.output_shapes-requires-clause-count
output_shapes-requires-clause-count c =
    let held = c.args.self.now in
    let some : flow_named held c.args.name.now ≡ Some c.in-Some.held.now =
    sym (c.in-Some.ensures ∙ ap (λ (h : Holdings). flow_named h c.args.name.now) c.self.view_is) in
    ap length (c.deref-2.ensures.value ∙ c.in_ok-shapes.ensures)
    ∙ enough held c.args.name.now c.args.base.now c.in-Some.held.now some c.requires.arrays c.requires.count
    ∙ sym (ap (λ (f : Graph). f.inputs) (c.deref.ensures ∙ c.flow-flow.ensures.value))

pub sites_over-requires : goal.sites_over-requires
sites_over-requires c =
    let flow : Graph = c.deref.result.now in
    let base : List Extent = c.deref-2.result.now in
    let outs : List Extent = c.in-Ok.outputs.items in
    let well : is_well_formed flow ≡ true =
    ap is_well_formed (c.deref.ensures ∙ c.flow-flow.ensures.value) ∙ c.flow-flow.ensures.right in
    let fits : output_shapes flow base ≡ Ok outs =
    sym c.in_ok-outputs.ensures ∙ ap (result_map_both (λ v. v.items) (λ (n : ℕ). n)) c.in-Ok.is in
    let some : flow_named c.args.self.now c.args.name.now ≡ Some c.in-Some.held.now =
    sym (c.in-Some.ensures ∙ ap (λ (h : Holdings). flow_named h c.args.name.now) c.self.view_is) in
    let count : length base ≡ flow.inputs =
    ap length (c.deref-2.ensures.value ∙ c.in_ok-shapes.ensures)
    ∙ enough c.args.self.now c.args.name.now c.args.base.now c.in-Some.held.now some c.requires.arrays c.requires.count
    ∙ sym (ap (λ (f : Graph). f.inputs) (c.deref.ensures ∙ c.flow-flow.ensures.value)) in
    let nodes : c.nodes.result.now ≡ flow.nodes =
    c.nodes.ensures ∙ ap (λ (f : Graph). f.nodes) (c.deref-in-Ok.ensures ∙ sym c.deref.ensures) in
    subst (All (IsFitting c.deref-in-Ok-2.result.now c.deref-in-Ok-3.result.now)) (sym nodes)
    (subst (λ (es : List Extent). All (IsFitting es c.deref-in-Ok-3.result.now) flow.nodes)
    (c.deref-2.ensures.value ∙ sym c.deref-in-Ok-2.ensures.value)
    (subst (λ (es : List Extent). All (IsFitting base es) flow.nodes) (sym c.deref-in-Ok-3.ensures.value)
    (nodes-fit flow base outs well count fits)))

pub returns-clause-value : goal.returns-clause-value
returns-clause-value c =
    let held = c.args.self.now in
    let base : List Extent = shapes_of (bases_of held c.args.base.now) in
    let outs : List Extent = c.in-Ok.outputs.items in
    let flow : Graph = c.in-Some.held.now.graph in
    let some : flow_named held c.args.name.now ≡ Some c.in-Some.held.now =
    sym (c.in-Some.ensures ∙ ap (λ (h : Holdings). flow_named h c.args.name.now) c.self.view_is) in
    let fits : output_shapes flow base ≡ Ok outs =
    sym (ap₂ output_shapes (c.deref.ensures ∙ c.flow-flow.ensures.value)
    (c.deref-2.ensures.value ∙ c.in_ok-shapes.ensures))
    ∙ sym c.in_ok-outputs.ensures ∙ ap (result_map_both (λ v. v.items) (λ (n : ℕ). n)) c.in-Ok.is in
    let nodes : c.nodes.result.now ≡ flow.nodes =
    c.nodes.ensures ∙ ap (λ (f : Graph). f.nodes) (c.deref-in-Ok.ensures ∙ c.flow-flow.ensures.value) in
    let between =
    ap₂ (λ (es os : List Extent). map (site_over es os) c.nodes.result.now)
    (c.deref-in-Ok-2.ensures.value ∙ c.in_ok-shapes.ensures) c.deref-in-Ok-3.ensures.value
    ∙ ap (λ (xs : List Node). map (site_over base outs) xs) nodes in
    IfOk-weaker c.sites_over.result _ _
    (λ r p. p ∙ between
    ∙ started-sites held c.args.name.now c.args.base.now c.in-Some.held.now outs some fits) c.sites_over.ensures

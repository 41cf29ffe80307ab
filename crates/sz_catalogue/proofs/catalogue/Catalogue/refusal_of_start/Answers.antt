-- The flow is held, so are the base arrays, and there are as many as it takes: what is left are the rules of shapes.
use Rattle.std.proofs.Common.{◌≡◌, List, true, false, length, Some, ap, ap₂, sym, ◌∙◌, arith, ◌==◌}
use Rattle.std.proofs.lemmas.Bool.Decides.{nat_tests}
use Rattle.std.proofs.lemmas.List.{length-map}
use Rattle.std.proofs.lemmas.Result.{IfOk-weaker}
use Rattle.sz_cells.specs.Extent.{Extent}
use Rattle.sz_spec.specs.Flows.{Graph}
use Rattle.sz_spec.specs.FlowShapes.{output_shapes}
use Rattle.sz_catalogue.specs.Holdings.{Base, Holdings, flow_named}
use Rattle.sz_catalogue.specs.Starts.{bases_of}
use Rattle.sz_catalogue.specs.Rules.{has_no_array}
use Rattle.sz_catalogue.specs.Kept.{refusal_by}
use Rattle.sz_catalogue.proofs.Bases.{bases-length}
use Rattle.sz_catalogue.proofs.Judging.{start-shapes}
use Rattle.sz_catalogue.proofs.catalogue.Catalogue.refusal_of_start.Goals as goal

pub refusal_of_shapes-requires-clause-count : goal.refusal_of_shapes-requires-clause-count
refusal_of_shapes-requires-clause-count c =
    let held : has_no_array c.args.self.now c.args.base.now ≡ false =
    sym c.has_no_array.ensures ∙ c.if-has_no_array.false in
    let all : length c.deref-3.result.now ≡ length c.args.base.now =
    ap length (c.deref-3.ensures.value ∙ c.in_ok-shapes.ensures)
    ∙ length-map (bases_of c.args.self.now c.args.base.now) (λ (b : Base). b.array.extent)
    ∙ bases-length c.args.self.now c.args.base.now held in
    let flow = ap (λ (g : Graph). g.inputs) (c.deref.ensures ∙ sym c.deref-2.ensures) in
    omega (arith, all, flow, c.inputs.ensures, c.if-base-inputs.false)

pub returns : goal.returns
returns c =
    let held : has_no_array c.args.self.now c.args.base.now ≡ false =
    sym c.has_no_array.ensures ∙ c.if-has_no_array.false in
    let some : flow_named c.args.self.now c.args.name.now ≡ Some c.in-Some.held.now =
    sym (c.in-Some.ensures ∙ ap (λ (h : Holdings). flow_named h c.args.name.now) c.self.view_is) in
    let flow = ap (λ (g : Graph). g.inputs) (c.deref.ensures ∙ c.flow-flow.ensures.value) in
    let same : length c.args.base.now ≡ c.in-Some.held.now.graph.inputs =
    omega (arith, flow, c.inputs.ensures, c.if-base-inputs.false) in
    let count : (length c.args.base.now == c.in-Some.held.now.graph.inputs) ≡ true = grind (arith, nat_tests) in
    IfOk-weaker c.refusal_of_shapes.result _ _
    (λ r p. p
    ∙ ap₂ (λ (g : Graph) (es : List Extent). refusal_by c.args.self.now (output_shapes g es))
    (c.deref-2.ensures ∙ c.flow-flow.ensures.value) (c.deref-3.ensures.value ∙ c.in_ok-shapes.ensures)
    ∙ sym (start-shapes c.args.self.now c.args.name.now c.args.base.now c.in-Some.held.now some held count))
    c.refusal_of_shapes.ensures

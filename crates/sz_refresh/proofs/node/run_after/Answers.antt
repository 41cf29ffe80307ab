-- The run is over what its operator takes.
use Rattle.std.proofs.Common.{◌≡◌, List, Ok, map, ap₂, subst, ◌∙◌}
use Rattle.std.specs.Arc.{arc_value}
use Rattle.sz_spec.specs.Values.{Grid}
use Rattle.sz_spec.specs.Shapes.{Site, shape_of}
use Rattle.sz_spec.specs.Evaluation.{output_of}
use Rattle.sz_refresh.proofs.Runs.{execution-own}
use Rattle.sz_refresh.proofs.node.run_after.Goals as goal

pub returns-clause-run : goal.returns-clause-run
returns-clause-run g c =
    let s = arc_value c.args.old.now.at in
    let same : arc_value c.in_ok-at.at ≡ s = c.in_ok-at.ensures in
    let rule = subst (λ (z : Site). shape_of z.op z.ins ≡ Ok z.out) c.deref.ensures c.out.ensures.rule in
    let value : arc_value c.in_ok-out.out ≡ output_of s.op c.args.inputs =
    c.in_ok-out.ensures.output
    ∙ ap₂ (λ (z : Site) (gs : List Grid). output_of z.op gs) (c.deref-2.ensures ∙ same) c.as_slice.ensures in
    execution-own s (arc_value c.in_ok-at.at) c.args.inputs (map (λ a. arc_value a) c.inputs.inside.items.items)
    (arc_value c.in_ok-out.out) same c.inputs.view_is c.requires.ins rule value

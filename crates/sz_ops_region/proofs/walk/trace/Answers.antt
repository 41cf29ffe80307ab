-- The image in either direction is the one back.
use Rattle.std.proofs.Common.{map, ap, ◌∙◌}
use Rattle.std.specs.Arc.{arc_value}
use Rattle.sz_cells.specs.Cells.{Cells, has, with_those}
use Rattle.sz_ops_region.proofs.Labels.{one-input}
use Rattle.sz_ops_region.proofs.Tracing.{image-turned}
use Rattle.sz_spec.specs.Work.{IsAtWork}
use Rattle.sz_ops_region.proofs.walk.trace.Goals as goal

pub returns-clause-to : goal.returns-clause-to
returns-clause-to c =
    let s = c.args.at.now in
    let grids = map (λ a. arc_value a) c.args.inputs.now in
    let t = c.threshold-t.result in
    let work : IsAtWork s grids = record {
      site = c.threshold-t.ensures.site;
      shapes = c.requires.inputs;
      right = c.threshold-t.ensures.right;
    } in
    let first = one-input s t c.args.input c.threshold-t.ensures.value c.threshold-t.ensures.site c.requires.input in
    c.trace_cells.ensures.to
    ∙ ap (λ (z : Cells). with_those c.args.to.now (has z))
    (image-turned s grids t c.args.input c.args.dir c.args.from.now c.threshold-t.ensures.value first work)

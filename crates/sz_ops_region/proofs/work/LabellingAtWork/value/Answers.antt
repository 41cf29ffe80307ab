-- A cell that is not high is labelled 0.
use Rattle.std.proofs.Common.{map, sym, ◌∙◌}
use Rattle.std.specs.Arc.{arc_value}
use Rattle.sz_spec.specs.Values.{input_at}
use Rattle.sz_spec.proofs.Components.{label-low}
use Rattle.sz_ops_region.proofs.Labels.{value-is}
use Rattle.sz_ops_region.proofs.work.LabellingAtWork.value.Goals as goal

pub returns-in-None : goal.returns-in-None
returns-in-None c =
    let w = c.args.self.now in
    let grids = map (λ a. arc_value a) w.inputs.now in
    sym (value-is w.at.now.op grids w.t c.args.out w.labels
    ∙ label-low w.t (input_at grids 0) c.args.out (sym c.in-None.ensures.high))

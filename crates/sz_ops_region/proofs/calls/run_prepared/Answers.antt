-- The labels that were prepared are the values of all cells.
use Rattle.std.proofs.Common.{map, ◌∙◌}
use Rattle.std.specs.Arc.{arc_value}
use Rattle.sz_spec.specs.Work.{IsAtWork}
use Rattle.sz_ops_region.proofs.Labelled.{prepared-is, prepared-values}
use Rattle.sz_ops_region.proofs.calls.run_prepared.Goals as goal

pub output_with-requires-clause-values : goal.output_with-requires-clause-values
output_with-requires-clause-values c =
    let s = c.args.at.now in
    let grids = map (λ a. arc_value a) c.args.inputs.now in
    let t = c.threshold-t.result in
    let is = c.threshold-t.ensures.value in
    let work : IsAtWork s grids = record {
      site = c.threshold-t.ensures.site;
      shapes = c.requires.inputs;
      right = c.threshold-t.ensures.right;
    } in
    let found = prepared-is s grids t c.in-Labels.labels c.args.aid.now is (rw c.in-Labels.is at c.kept.ensures)
    c.requires.aid in
    c.in_ok-cells-in-Labels.ensures ∙ prepared-values s grids t c.in-Labels.labels is work found

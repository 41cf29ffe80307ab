-- A value is written at the index, and no other changes.
use Rattle.std.proofs.Common.{◌≡◌, ◌<◌, List, map, length, ap, ◌∙◌, arith, length-set}
use Rattle.std.specs.Arc.{arc_value}
use Rattle.sz_cells.specs.Extent.{Extent, cell_of}
use Rattle.sz_spec.specs.Values.{Grid}
use Rattle.sz_spec.specs.Evaluation.{value_of}
use Rattle.sz_refresh.proofs.Outputs.{value, written-made, written-kept}
use Rattle.sz_refresh.proofs.output.compute.Goals as goal

pub loop-index-preserved : goal.loop-index-preserved
loop-index-preserved c =
    let s = c.args.at.now in
    let inputs : List Grid = map (λ a. arc_value a) c.args.inputs.now in
    let inv = c.loop-index.invariant in
    let i = c.loop-index.index in
    let values = c.loop-index.values in
    let inside : i < length values = omega (arith, c.loop-index-test.true, c.requires.within, inv.long) in
    let is : c.value_at.result ≡ value s inputs i =
    c.value_at.ensures
    ∙ ap (value_of s.op inputs)
    (c.cell_at.ensures.value ∙ ap (λ (e : Extent). cell_of e i) c.out-shape.ensures.value) in
    record {
      below = omega (arith, c.loop-index-test.true);
      above = omega (arith, inv.above);
      long = length-set values i c.value_at.result ∙ inv.long;
      made = written-made s inputs values c.args.run.first i c.value_at.result inside is inv.made;
      kept = written-kept values c.args.values.now c.args.run.first i c.value_at.result inv.above inv.kept;
      counted = omega (arith, c.tick.ensures, inv.counted);
    }

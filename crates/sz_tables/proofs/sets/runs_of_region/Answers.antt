-- One set more.
use Rattle.std.proofs.Common.{◌∙◌, ap, arith}
use Rattle.std.specs.Arc.{arc_value}
use Rattle.sz_frame.specs.Parts.{Pairing}
use Rattle.sz_tables.specs.Rows.{runs_in}
use Rattle.sz_tables.specs.Stores.{cells_in}
use Rattle.sz_tables.proofs.Counted.{item-made, sum-more}
use Rattle.sz_tables.proofs.sets.runs_of_region.Goals as goal

pub loop-set-preserved : goal.loop-set-preserved
loop-set-preserved c =
    let ins = c.args.region.now.ins in
    let i = c.loop-set.set-index in
    let set = c.deref-in-loop-set.result.now in
    let there = item-made (λ a. arc_value a) c.as_slice-set-items.result.now ins i c.set-item.result set
    (c.as_slice-set-items.ensures ∙ ap (λ (r : Pairing). r.ins) c.region.view_is) c.loop-set-test.true c.set-item.is
    c.deref-in-loop-set.ensures in
    let runs = sum-more runs_in ins i set there in
    let cells = sum-more cells_in ins i set there in
    let more = c.runs_of_set-runs-in-loop-set.ensures in
    record {
      runs = omega (arith, c.loop-set.invariant.runs, runs, more.runs);
      few = omega (arith, c.loop-set.invariant.few, more.few);
      cells = omega (arith, c.loop-set.invariant.cells, cells, more.cells);
    }

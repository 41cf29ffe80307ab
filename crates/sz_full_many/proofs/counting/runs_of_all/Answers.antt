-- One region pair more.
use Rattle.std.proofs.Common.{◌+◌, refl, arith, map}
use Rattle.std.specs.Prelude.{sum_by}
use Rattle.std.specs.Arc.{arc_value}
use Rattle.sz_frame.specs.Parts.{Pairing}
use Rattle.sz_tables.specs.Rows.{weight_of}
use Rattle.sz_tables.specs.Stores.{cells_in}
use Rattle.sz_tables.proofs.Counted.{item-made, sum-more}
use Rattle.sz_full_many.proofs.counting.runs_of_all.Goals as goal

pub runs_of_region-runs-requires : goal.runs_of_region-runs-requires
runs_of_region-runs-requires c =
    let rs = map (λ a. arc_value a) c.args.regions.now in
    let i = c.loop-region.region-index in
    let r = c.deref.result.now in
    let there = item-made (λ a. arc_value a) c.args.regions.now rs i c.region-item.result r refl
    c.loop-region-test.true c.region-item.is c.deref.ensures in
    let few = c.requires.inputs i r there.0 in
    rw there.1 at few

pub loop-region-preserved : goal.loop-region-preserved
loop-region-preserved c =
    let rs = map (λ a. arc_value a) c.args.regions.now in
    let i = c.loop-region.region-index in
    let r = c.deref.result.now in
    let there = item-made (λ a. arc_value a) c.args.regions.now rs i c.region-item.result r refl
    c.loop-region-test.true c.region-item.is c.deref.ensures in
    let runs = sum-more weight_of rs i r there in
    let cells = sum-more (λ (p : Pairing). cells_in p.out + sum_by cells_in p.ins) rs i r there in
    let more = c.runs_of_region-runs.ensures in
    record {
      runs = omega (arith, c.loop-region.invariant.runs, runs, more.runs);
      few = omega (arith, c.loop-region.invariant.few, more.few);
      cells = omega (arith, c.loop-region.invariant.cells, cells, more.cells);
    }

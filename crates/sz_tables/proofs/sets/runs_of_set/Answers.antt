-- Its shape is small, so its runs are few.
use Rattle.std.proofs.Common.{◌≤◌, ap, arith}
use Rattle.sz_cells.specs.Extent.{size_of}
use Rattle.sz_tables.proofs.Counted.{set-runs, set-cells}
use Rattle.sz_tables.proofs.sets.runs_of_set.Goals as goal

pub returns-clause-few : goal.returns-clause-few
returns-clause-few c =
    let small : size_of c.args.set.now.extent ≤ 1048576 =
    omega (arith, c.size.ensures.few, c.size.ensures.value, ap size_of c.shape.ensures.value) in
    set-runs c.args.set.now c.runs.result.now c.runs.ensures.spelled small

pub returns-clause-cells : goal.returns-clause-cells
returns-clause-cells c =
    let small : size_of c.args.set.now.extent ≤ 1048576 =
    omega (arith, c.size.ensures.few, c.size.ensures.value, ap size_of c.shape.ensures.value) in
    set-cells c.args.set.now c.runs.result.now c.runs.ensures.spelled small

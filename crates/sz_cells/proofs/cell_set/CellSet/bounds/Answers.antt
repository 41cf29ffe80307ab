-- Each run is in order and within the shape.
use Rattle.sz_cells.specs.Extent.{size_of}
use Rattle.sz_cells.proofs.Runs.{runs-at}
use Rattle.sz_cells.proofs.cell_set.CellSet.bounds.Goals as goal

pub bounds_with_run-bounds-requires : goal.bounds_with_run-bounds-requires
bounds_with_run-bounds-requires c =
    let at = runs-at 0 (size_of c.args.self.now.extent) c.runs-runs.result.now c.loop-run.run-index
    (record { first = 0; last = 0 }) c.runs-runs.ensures.spelled.longest c.loop-run-test.true in
    record { order = at.1; within = rw c.shape-shape.ensures.value at.2 }

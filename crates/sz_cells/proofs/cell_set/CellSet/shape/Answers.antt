-- What longest runs spell rises.
use Rattle.sz_cells.specs.Extent.{size_of}
use Rattle.sz_cells.proofs.Runs.{runs-rising}
use Rattle.sz_cells.proofs.cell_set.CellSet.shape.Goals as goal

pub returns-clause-rising : goal.returns-clause-rising
returns-clause-rising c = rw (← c.self.view_is) (runs-rising 0 (size_of c.self.inside.shape) c.self.inside.runs.items
    c.self.invariant.0)

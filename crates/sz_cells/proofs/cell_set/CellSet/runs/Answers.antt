-- The longest runs of what the runs spell are these runs.
use Rattle.std.proofs.Common.{sym}
use Rattle.sz_cells.specs.Extent.{size_of}
use Rattle.sz_cells.proofs.Runs.{runs_of-spelled}
use Rattle.sz_cells.proofs.cell_set.CellSet.runs.Goals as goal

pub returns-clause-only : goal.returns-clause-only
returns-clause-only c =
    rw (c.deref.ensures.value, ← c.self.view_is)
    (sym (runs_of-spelled 0 (size_of c.self.inside.shape) c.self.inside.runs.items c.self.invariant.0))

-- The bitmap stays one of cells of the shape.
use Rattle.std.proofs.Common.{◌≡◌}
use Rattle.trials_refresh.proofs.refreshed.set_of.Given as goal

abbrev pub invariant-loop-index : goal.invariant-loop-index
invariant-loop-index l = l.cells.extent ≡ l.shape

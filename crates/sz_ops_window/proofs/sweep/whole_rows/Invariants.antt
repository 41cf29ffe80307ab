-- The rows so far that are marked have no empty cell.
use Rattle.std.proofs.Common.{◌≡◌, length}
use Rattle.sz_ops_window.specs.Sweeps.{AreWhole}
use Rattle.sz_ops_window.proofs.sweep.whole_rows.Given as goal

abbrev pub invariant-loop-row : goal.invariant-loop-row
invariant-loop-row l = (length l.whole.items ≡ l.row) × AreWhole l.array.extent.cols l.voids l.whole.items

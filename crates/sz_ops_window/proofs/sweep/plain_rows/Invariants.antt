-- The rows so far that are marked are plain.
use Rattle.std.proofs.Common.{◌≡◌, length}
use Rattle.sz_ops_window.specs.Sweeps.{ArePlain}
use Rattle.sz_ops_window.proofs.sweep.plain_rows.Given as goal

abbrev pub invariant-loop-row : goal.invariant-loop-row
invariant-loop-row l = (length l.plain.items ≡ l.row) × ArePlain l.most l.array l.plain.items

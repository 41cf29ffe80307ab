-- The sums and the marks are those of the taps so far.
use Rattle.std.proofs.Common.{◌≡◌, ◌*◌, length}
use Rattle.sz_ops_window.specs.Sweeps.{AreSums}
use Rattle.sz_ops_window.proofs.sweep.sums_of.Given as goal

abbrev pub invariant-loop-number : goal.invariant-loop-number
invariant-loop-number l = record {
  sums : length l.sums.items ≡ l.array.extent.cols;
  marks : length l.marks.items ≡ l.array.extent.cols;
  made : AreSums l.array l.mask l.row l.number (l.limits.weight * l.limits.number) l.sums.items l.marks.items;
}

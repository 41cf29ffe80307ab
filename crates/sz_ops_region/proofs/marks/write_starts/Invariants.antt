-- The indexes so far are those at which the words before this one begin to be others.
use Rattle.std.proofs.Common.{◌≡◌, ◌+◌, ◌≤◌, length}
use Rattle.sz_ops_region.specs.Stretches.{AreStarts}
use Rattle.sz_ops_region.proofs.marks.write_starts.Given as goal

abbrev pub invariant-loop-index : goal.invariant-loop-index
invariant-loop-index l = record {
  long : length l.starts.items ≡ length l.words + 1;
  few : l.count ≤ l.index;
  starts : AreStarts l.words l.count l.index l.starts.items;
}

-- The cells before this one are marked, and there are no more numbers than such cells.
use Rattle.std.proofs.Common.{◌≡◌, ◌≤◌, length}
use Rattle.sz_ops_region.specs.Numbers.{AreGrouped}
use Rattle.sz_ops_region.proofs.numbering.numbers_by.Given as goal

abbrev pub invariant-loop-index : goal.invariant-loop-index
invariant-loop-index l = record {
  end : l.index-end ≡ length l.labels;
  count : l.numbers.count ≤ l.index;
  grouped : AreGrouped l.labels l.numbers.marks l.numbers.count l.index;
}

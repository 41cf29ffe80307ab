-- What was seen are the cells of the entries so far, and the count is that of the cells of each.
use Rattle.std.proofs.Common.{◌≡◌, ◌≤◌, take}
use Rattle.sz_cells.specs.Extent.{size_of}
use Rattle.sz_tables.specs.Entries.{entries}
use Rattle.sz_tables.proofs.Counting.{IsCounted}
use Rattle.sz_tables.proofs.apart.are_apart.Given as goal

abbrev pub invariant-loop-row : goal.invariant-loop-row
invariant-loop-row l = record {
  shape : l.seen.extent ≡ l.table.out;
  few : l.count ≤ size_of l.table.out;
  counted : IsCounted l.seen (take l.row (entries l.table)) l.count;
}

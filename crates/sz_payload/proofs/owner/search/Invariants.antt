-- No entry below the start has the cell.
use Rattle.std.proofs.Common.{◌≡◌, ℕ, ◌-◌, ◌<◌, ◌≤◌, false, length}
use Rattle.sz_cells.specs.Extent.{cell_of}
use Rattle.sz_cells.specs.Cells.{has}
use Rattle.sz_tables.specs.Entries.{entries, entry_at}
use Rattle.sz_payload.proofs.Owning.{only}
use Rattle.sz_payload.proofs.owner.search.Given as goal

abbrev pub invariant-loop-start : goal.invariant-loop-start
invariant-loop-start l = record {
  all : l.end ≡ length (entries l.table);
  below : l.start ≤ l.end;
  bounds : l.bounds ≡ only (cell_of l.table.out l.index);
  none : (k : ℕ) → k < l.start → has (entry_at (entries l.table) k).out (cell_of l.table.out l.index) ≡ false;
}

abbrev pub decreases-loop-start : goal.decreases-loop-start
decreases-loop-start l = l.end - l.start

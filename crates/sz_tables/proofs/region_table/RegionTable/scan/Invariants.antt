-- What was added is what the rows below the index add, and what was seen is so.
use Rattle.std.proofs.Common.{◌≡◌, length, take}
use Rattle.sz_cells.specs.Cells.{with_those}
use Rattle.sz_tables.specs.Rows.{pairings}
use Rattle.sz_tables.specs.Scans.{pairs_add, HasSeen}
use Rattle.sz_tables.proofs.region_table.RegionTable.scan.Given as goal

abbrev pub invariant-loop-row : goal.invariant-loop-row
invariant-loop-row l = record {
  all : l.row-end ≡ length l.self.rows;
  added : l.to ≡ with_those l.fn.to (pairs_add l.dir l.input l.from (take l.row (pairings l.self)));
  seen : HasSeen l.dir l.input l.self l.from l.to l.seen;
}

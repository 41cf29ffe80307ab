-- What was added is what the region pairs below the start add, and what was seen is so.
use Rattle.std.proofs.Common.{◌≡◌, ◌≤◌, ◌-◌, length, take}
use Rattle.sz_cells.specs.Cells.{with_those}
use Rattle.sz_tables.specs.Rows.{pairings}
use Rattle.sz_tables.specs.Scans.{pairs_add, HasSeen}
use Rattle.sz_full_many.proofs.looking.look_within.Given as goal

abbrev pub invariant-loop-start : goal.invariant-loop-start
invariant-loop-start l = record {
  all : l.end ≡ length l.table.rows;
  below : l.start ≤ l.end;
  added : l.to ≡ with_those l.fn.to (pairs_add l.dir l.input l.from (take l.start (pairings l.table)));
  seen : HasSeen l.dir l.input l.table l.from l.to l.seen;
}

abbrev pub decreases-loop-start : goal.decreases-loop-start
decreases-loop-start l = l.end - l.start

-- There are the rectangles of the entries so far, and room for the others.
use Rattle.std.proofs.Common.{◌≡◌, ◌≤◌, length, take}
use Rattle.std.specs.Vec.{vec_capacity}
use Rattle.sz_tables.specs.Entries.{entries}
use Rattle.sz_payload.specs.Owned.{AreRound}
use Rattle.sz_payload.proofs.owner.tree_of.Given as goal

abbrev pub invariant-loop-row : goal.invariant-loop-row
invariant-loop-row l = record {
  count : length l.rectangles.items ≡ l.row;
  capacity : length l.table.rows ≤ vec_capacity l.rectangles;
  round : AreRound (take l.row (entries l.table)) l.rectangles.items;
}

-- There are the rectangles of the rows so far, and room for the others.
use Rattle.std.proofs.Common.{◌≡◌, ◌≤◌, length, take}
use Rattle.std.specs.Vec.{vec_capacity}
use Rattle.sz_tables.specs.Rows.{pairings}
use Rattle.sz_full_many.specs.Indexed.{AreRound}
use Rattle.sz_full_many.proofs.bounds.tree_of.Given as goal

abbrev pub invariant-loop-row : goal.invariant-loop-row
invariant-loop-row l = record {
  count : length l.rectangles.items ≡ l.row;
  capacity : length l.table.rows ≤ vec_capacity l.rectangles;
  round : AreRound l.dir l.input (take l.row (pairings l.table)) l.rectangles.items;
}

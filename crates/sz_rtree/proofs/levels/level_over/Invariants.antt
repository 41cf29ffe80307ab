-- The boxes so far are round the rectangles so far.
use Rattle.std.proofs.Common.{◌≡◌, ◌≤◌, length, take}
use Rattle.sz_rtree.specs.Levels.{Covers, HasRoom}
use Rattle.sz_rtree.proofs.levels.level_over.Given as goal

abbrev pub invariant-loop-number : goal.invariant-loop-number
invariant-loop-number l = record {
  span : l.level.span ≡ 4;
  few : length l.level.boxes.items ≤ l.number;
  room : HasRoom (length l.rectangles) l.level;
  covers : Covers (take l.number l.rectangles) l.level;
}

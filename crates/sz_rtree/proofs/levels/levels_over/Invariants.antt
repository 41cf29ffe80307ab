-- Each level so far is round the rectangles.
use Rattle.std.proofs.Common.{◌<◌, ◌-◌, ◌^◌, length, All}
use Rattle.sz_rtree.specs.Levels.{Covers}
use Rattle.sz_rtree.proofs.levels.levels_over.Given as goal

abbrev pub invariant-loop-level : goal.invariant-loop-level
invariant-loop-level l = record {
  few : length l.level.boxes.items < 2 ^ 32;
  covers : Covers l.rectangles l.level;
  below : All (Covers l.rectangles) l.levels.items;
}

abbrev pub decreases-loop-level : goal.decreases-loop-level
decreases-loop-level l = 1073741824 - l.level.span

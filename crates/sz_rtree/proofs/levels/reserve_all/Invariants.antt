-- The key idea: every level keeps what it had, and those before the index have the room as well.
use Rattle.std.proofs.Common.{ℕ, ◌<◌, List, All}
use Rattle.std.specs.List.{AllWithin}
use Rattle.sz_cells.specs.declared.Bounds.{Bounds}
use Rattle.sz_rtree.specs.Levels.{Covers, HasRoom}
use Rattle.sz_rtree.proofs.levels.reserve_all.Given as goal

abbrev pub invariant-loop-level : goal.invariant-loop-level
invariant-loop-level l = record {
  positive : All (λ level. 0 < level.span) l.levels;
  covers : (rectangles : List Bounds) → All (Covers rectangles) l.initial.levels
      → All (Covers rectangles) l.levels;
  kept : (room : ℕ) → All (HasRoom room) l.initial.levels → All (HasRoom room) l.levels;
  done : AllWithin (HasRoom l.count) l.levels 0 l.level-index;
}

-- The key idea: the levels before the index cover one rectangle more than those from the index on.
use Rattle.std.proofs.Common.{ℕ, ◌≡◌, ◌<◌, List, [], ◌∷◌, ◌++◌, length, All}
use Rattle.std.specs.List.{AllWithin}
use Rattle.sz_cells.specs.declared.Bounds.{Bounds}
use Rattle.sz_rtree.specs.Levels.{Covers, HasRoom, box_capacities}
use Rattle.sz_rtree.proofs.levels.add_to_all.Given as goal

abbrev pub invariant-loop-level : goal.invariant-loop-level
invariant-loop-level l = record {
  positive : All (λ level. 0 < level.span) l.levels;
  done : (rectangles : List Bounds) → length rectangles ≡ l.number → All (Covers rectangles) l.initial.levels
      → AllWithin (Covers (rectangles ++ l.bounds ∷ [])) l.levels 0 l.level-index;
  ahead : (rectangles : List Bounds) → All (Covers rectangles) l.initial.levels
      → AllWithin (Covers rectangles) l.levels l.level-index (length l.levels);
  kept : (room : ℕ) → All (HasRoom room) l.initial.levels → All (HasRoom room) l.levels;
  capacities : box_capacities l.levels ≡ box_capacities l.initial.levels;
}

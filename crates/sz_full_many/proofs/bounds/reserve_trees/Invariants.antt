-- The rectangles stay, and the trees before the index have the room.
use Rattle.std.proofs.Common.{◌≡◌, ◌≤◌, ◌<◌, ◌+◌, ◌^◌, length, map, All}
use Rattle.std.specs.List.{AllWithin}
use Rattle.sz_full_many.proofs.bounds.reserve_trees.Given as goal

abbrev pub invariant-loop-tree : goal.invariant-loop-tree
invariant-loop-tree l = record {
  few : All (λ t. length t.rectangles + l.more < 2 ^ 32) l.trees;
  kept : map (λ t. t.rectangles) l.trees ≡ map (λ t. t.rectangles) l.initial.trees;
  done : AllWithin (λ t. l.more ≤ t.spare) l.trees 0 l.tree-index;
}

-- The key idea: each rectangle uses up one of the places that room was made for.
use Rattle.std.proofs.Common.{◌+◌, ◌≤◌, length}
use Rattle.trials_cells.proofs.rtree.tree_of.Given as goal

abbrev pub invariant-loop-rectangle : goal.invariant-loop-rectangle
invariant-loop-rectangle l = length l.rectangles ≤ l.tree.spare + l.rectangle-index

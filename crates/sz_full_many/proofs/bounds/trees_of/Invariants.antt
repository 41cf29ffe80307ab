-- Each tree so far has the region pairs.
use Rattle.std.proofs.Common.{◌≡◌, ℕ, ◌<◌, length, get_or}
use Rattle.sz_rtree.specs.Rectangles.{Rectangles}
use Rattle.sz_tables.specs.Rows.{pairings}
use Rattle.sz_full_many.specs.Indexed.{AreRound}
use Rattle.sz_full_many.proofs.bounds.trees_of.Given as goal

abbrev pub invariant-loop-input : goal.invariant-loop-input
invariant-loop-input l = record {
  count : length l.trees.items ≡ l.input;
  round : (i : ℕ) (d : Rectangles) → i < length l.trees.items
      → AreRound l.dir i (pairings l.table) (get_or l.trees.items i d).rectangles;
}

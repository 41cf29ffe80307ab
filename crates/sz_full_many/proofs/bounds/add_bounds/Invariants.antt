-- The trees before the index have one rectangle more, and those from it on are as they were.
use Rattle.std.proofs.Common.{◌≡◌, ℕ, ◌≤◌, ◌<◌, length}
use Rattle.std.specs.Prelude.{slice_index_or}
use Rattle.sz_rtree.specs.Rectangles.{Rectangles}
use Rattle.sz_full_many.specs.Indexed.{HasNext}
use Rattle.sz_full_many.proofs.bounds.add_bounds.Given as goal

abbrev pub invariant-loop-i : goal.invariant-loop-i
invariant-loop-i l = record {
  count : length l.trees ≡ length l.initial.trees;
  done : (k : ℕ) (d : Rectangles) → k < l.i
      → HasNext l.dir k l.region (slice_index_or l.initial.trees k d) (slice_index_or l.trees k d);
  ahead : (k : ℕ) (d : Rectangles) → l.i ≤ k
      → slice_index_or l.trees k d ≡ slice_index_or l.initial.trees k d;
}

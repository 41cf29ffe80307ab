-- Each tree so far is empty.
use Rattle.std.proofs.Common.{◌≡◌, length, [], All}
use Rattle.sz_full_many.proofs.bounds.empty_trees.Given as goal

abbrev pub invariant-loop : goal.invariant-loop
invariant-loop l = record {
  count : length l.trees.items ≡ l.counter;
  empty : All (λ t. t.rectangles ≡ []) l.trees.items;
  spare : All (λ t. t.spare ≡ 0) l.trees.items;
}

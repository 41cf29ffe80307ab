-- The components so far are those of the numbers before this one, and the runs of the others are still there.
use Rattle.std.proofs.Common.{◌≡◌, ℕ, ◌<◌, ◌≤◌, [], map, length, get_or}
use Rattle.std.specs.List.{range_with_len}
use Rattle.sz_cells.specs.Extent.{size_of}
use Rattle.sz_ops_region.specs.Sets.{HasRuns, cells_numbered}
use Rattle.sz_ops_region.proofs.components.components_of.Given as goal

abbrev pub invariant-loop-number : goal.invariant-loop-number
invariant-loop-number l = record {
  long : length l.lists.items ≡ l.count;
  rest : (j : ℕ) → l.number ≤ j → j < l.count → HasRuns l.marks (size_of l.shape) j (get_or l.lists.items j []);
  made : l.components.items ≡ map (cells_numbered l.shape l.marks) (range_with_len 0 l.number);
}

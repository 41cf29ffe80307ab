-- The values of the run's cells before the index are computed, and the others are as they were.
use Rattle.std.proofs.Common.{◌≡◌, ℕ, ◌+◌, ◌≤◌, true, false, ◌&&◌, nat_le, nat_lt, None, get_or, length, map}
use Rattle.std.specs.Arc.{arc_value}
use Rattle.sz_cells.specs.Extent.{size_of}
use Rattle.sz_refresh.proofs.Outputs.{value}
use Rattle.sz_refresh.proofs.output.compute.Given as goal

abbrev pub invariant-loop-index : goal.invariant-loop-index
invariant-loop-index l = record {
  below : l.index ≤ l.fn.run.last + 1;
  above : l.fn.run.first ≤ l.index;
  long : length l.values ≡ size_of l.at.out;
  made : (k : ℕ) → (nat_le l.fn.run.first k && nat_lt k l.index) ≡ true
      → get_or l.values k None ≡ value l.at (map (λ a. arc_value a) l.inputs) k;
  kept : (k : ℕ) → (nat_le l.fn.run.first k && nat_lt k l.index) ≡ false
      → get_or l.values k None ≡ get_or l.fn.values k None;
  counted : l.count + l.fn.run.first ≡ l.fn.count + l.index;
}

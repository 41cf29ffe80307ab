-- The cells of the run before this one are labelled.
use Rattle.std.proofs.Common.{◌≡◌, ◌&&◌, nat_le, nat_lt, List, length}
use Rattle.sz_cells.specs.Extent.{Extent}
use Rattle.sz_cells.specs.Cells.{Cells}
use Rattle.sz_frame.specs.Parts.{Pairing}
use Rattle.sz_merge.specs.Marks.{AreMarked, IsNext}
use Rattle.sz_merge.proofs.tabled.label_run.Given as goal

abbrev pub invariant-loop-index : goal.invariant-loop-index
invariant-loop-index l = record {
  long : length l.labels.items ≡ length l.initial.labels.items;
  marked : (ins : List Extent) (r : Pairing) (lists : List (List Cells)) → IsNext ins r lists 0 l.label
      → AreMarked ins r (λ k. nat_le l.fn.run.first k && nat_lt k l.index) l.initial.labels.items l.labels.items
      lists lists;
}

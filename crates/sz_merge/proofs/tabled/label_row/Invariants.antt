-- The cells of the runs before this one are labelled.
use Rattle.std.proofs.Common.{◌≡◌, List, take, length}
use Rattle.sz_cells.specs.Extent.{Extent}
use Rattle.sz_cells.specs.Cells.{Cells}
use Rattle.sz_cells.specs.Runs.{covers}
use Rattle.sz_frame.specs.Parts.{Pairing}
use Rattle.sz_merge.specs.Marks.{AreMarked, IsNext}
use Rattle.sz_merge.proofs.tabled.label_row.Given as goal

abbrev pub invariant-loop-run : goal.invariant-loop-run
invariant-loop-run l = record {
  long : length l.labels.items ≡ length l.initial.labels.items;
  marked : (ins : List Extent) (r : Pairing) (lists : List (List Cells)) → IsNext ins r lists 0 l.label
      → AreMarked ins r (covers (take l.run-index l.runs)) l.initial.labels.items l.labels.items lists lists;
}

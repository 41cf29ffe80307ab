-- Each cell has the number of what stands behind it by the rows before this one, and these have the table's shapes.
use Rattle.std.proofs.Common.{take, All}
use Rattle.sz_region.specs.Putting.{HasShapes}
use Rattle.sz_tables.specs.Rows.{pairings, sets_of}
use Rattle.sz_merge.specs.Lineages.{lists_of}
use Rattle.sz_merge.specs.Marks.{AreLabels}
use Rattle.sz_merge.proofs.tabled.label_rows.Given as goal

abbrev pub invariant-loop-row : goal.invariant-loop-row
invariant-loop-row l = record {
  labels : AreLabels l.fn.out l.table.ins (take l.row (pairings l.table)) l.labels.items
      (lists_of l.table.ins (sets_of l.table.sets 0));
  shapes : All (HasShapes l.fn.out l.table.ins) (take l.row (pairings l.table));
}

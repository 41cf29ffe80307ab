-- No run so far has an asked index, and `next` is the least asked one at or after the start of the last of them.
use Rattle.std.proofs.Common.{◌≡◌, false, take, drop}
use Rattle.std.specs.List.{list_any}
use Rattle.sz_cells.specs.Extent.{size_of}
use Rattle.sz_cells.specs.Cells.{next_index}
use Rattle.sz_cells.specs.Runs.{AreRunsFrom, covers}
use Rattle.sz_tables.proofs.looks.runs_meet.Given as goal

abbrev pub invariant-loop-run : goal.invariant-loop-run
invariant-loop-run l = record {
  next : l.next ≡ next_index l.from l.start;
  left : AreRunsFrom l.start (size_of l.from.extent) (drop l.run-index l.runs);
  unmet : list_any (covers (take l.run-index l.runs)) l.from.indexes ≡ false;
}

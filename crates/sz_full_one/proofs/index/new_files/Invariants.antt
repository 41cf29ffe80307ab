-- The files so far are those of the inputs before this one, of a table without a region pair.
use Rattle.std.proofs.Common.{◌≡◌, ◌<◌, ℕ, length, get_or}
use Rattle.sz_cells.specs.Extent.{Extent}
use Rattle.sz_full_one.specs.declared.index.SetFiles.{SetFiles}
use Rattle.sz_tables.specs.Rows.{empty_rows}
use Rattle.sz_full_one.specs.ByCells.{AreFiledByIns}
use Rattle.sz_full_one.proofs.index.new_files.Given as goal

abbrev pub invariant-loop-shape : goal.invariant-loop-shape
invariant-loop-shape l = record {
  length : length l.files.items ≡ l.shape-index;
  filed : (out : Extent) (i : ℕ) (d : SetFiles) → i < l.shape-index
      → AreFiledByIns (empty_rows out l.ins) i (get_or l.files.items i d);
}

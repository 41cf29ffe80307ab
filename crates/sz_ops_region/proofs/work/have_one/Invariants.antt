-- No cell before this one is in both.
use Rattle.std.proofs.Common.{◌≡◌, ℕ, ◌<◌, false, ◌&&◌}
use Rattle.sz_cells.specs.Extent.{size_of, cell_of}
use Rattle.sz_cells.specs.Cells.{has}
use Rattle.sz_ops_region.proofs.work.have_one.Given as goal

abbrev pub invariant-loop-index : goal.invariant-loop-index
invariant-loop-index l = record {
  shape : l.shape ≡ l.set.extent;
  end : l.index-end ≡ size_of l.set.extent;
  none : (k : ℕ) → k < l.index → (has l.from (cell_of l.set.extent k) && has l.set (cell_of l.set.extent k)) ≡ false;
}

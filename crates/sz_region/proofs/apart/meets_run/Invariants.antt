-- No index of the run before this one is that of a cell of the bitmap.
use Rattle.std.proofs.Common.{◌≡◌, ◌-◌, false}
use Rattle.std.specs.List.{list_any, range_with_len}
use Rattle.sz_cells.specs.Extent.{cell_of}
use Rattle.sz_cells.specs.Cells.{has}
use Rattle.sz_region.proofs.apart.meets_run.Given as goal

abbrev pub invariant-loop-index : goal.invariant-loop-index
invariant-loop-index l =
    list_any (λ k. has l.bits (cell_of l.bits.extent k)) (range_with_len l.fn.run.first (l.index - l.fn.run.first))
    ≡ false

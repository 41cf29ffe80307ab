-- No run before this one has a cell of the bitmap.
use Rattle.std.proofs.Common.{◌≡◌, false, take}
use Rattle.std.specs.List.{list_any, flat_map}
use Rattle.sz_cells.specs.Extent.{cell_of}
use Rattle.sz_cells.specs.Cells.{has}
use Rattle.sz_cells.specs.Runs.{runs_of, indexes_of}
use Rattle.sz_region.proofs.apart.meets.Given as goal

abbrev pub invariant-loop-run : goal.invariant-loop-run
invariant-loop-run l =
    (l.run-items ≡ runs_of l.set.indexes)
    × (list_any (λ k. has l.bits (cell_of l.set.extent k)) (flat_map indexes_of (take l.run-index l.run-items)) ≡ false)

-- The rectangle so far has the cells of the runs so far.
use Rattle.std.proofs.Common.{◌≡◌, fold, take}
use Rattle.std.specs.List.{flat_map}
use Rattle.sz_cells.specs.Extent.{cell_of}
use Rattle.sz_cells.specs.Runs.{indexes_of, bounds_with}
use Rattle.sz_cells.proofs.cell_set.CellSet.bounds.Given as goal

-- the rectangle has the cells of the runs so far
abbrev pub invariant-loop-run : goal.invariant-loop-run
invariant-loop-run l =
    l.bounds ≡ fold (λ b k. bounds_with b (cell_of l.shape k)) l.initial.bounds
    (flat_map indexes_of (take l.run-index l.runs))

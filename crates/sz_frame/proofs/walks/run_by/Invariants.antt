-- The values so far are those of the cells whose numbers are below the index.
use Rattle.std.proofs.Common.{◌≡◌}
use Rattle.sz_cells.specs.Extent.{size_of, cell_of}
use Rattle.sz_frame.specs.Walks.{values_before}
use Rattle.sz_frame.proofs.walks.run_by.Given as goal

abbrev pub invariant-loop-index : goal.invariant-loop-index
invariant-loop-index g l =
    let s = g.A.AtWork.site l.at in
    (l.shape ≡ s.out) × (l.index-end ≡ size_of s.out) × (l.cell ≡ cell_of s.out l.index)
    × (l.cells.items ≡ values_before s (g.A.AtWork.inputs l.at) l.index)

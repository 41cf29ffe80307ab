-- What was added is what the cells whose numbers are below the index add, and each was counted.
use Rattle.std.proofs.Common.{◌≡◌, ◌+◌}
use Rattle.sz_cells.specs.Extent.{size_of, cell_of}
use Rattle.sz_cells.specs.Cells.{with_those}
use Rattle.sz_spec.specs.Lineage.{related}
use Rattle.sz_frame.specs.Walks.{traced, added}
use Rattle.sz_frame.proofs.walks.trace_by.Given as goal

abbrev pub invariant-loop-index : goal.invariant-loop-index
invariant-loop-index g l =
    let s = g.A.AtWork.site l.at in
    (l.shape ≡ s.out) × (l.index-end ≡ size_of s.out) × (l.cell ≡ cell_of s.out l.index)
    × (l.tally ≡ l.fn.tally + l.index)
    × (l.to ≡ with_those l.fn.to (added s.out (traced l.dir (related s.op (g.A.AtWork.inputs l.at) l.input)
    l.from) l.index))

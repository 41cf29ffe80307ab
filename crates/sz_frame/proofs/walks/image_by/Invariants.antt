-- What was added is what the cells of the set add whose numbers are below the start.
use Rattle.std.proofs.Common.{◌≡◌, ◌-◌, ◌≤◌}
use Rattle.sz_cells.specs.Extent.{size_of}
use Rattle.sz_cells.specs.Cells.{with_those}
use Rattle.sz_spec.specs.Lineage.{mapped}
use Rattle.sz_spec.specs.Sides.{near_side}
use Rattle.sz_frame.specs.Walks.{stepped, added}
use Rattle.sz_frame.proofs.walks.image_by.Given as goal

abbrev pub invariant-loop-start : goal.invariant-loop-start
invariant-loop-start g l =
    let s = g.M.Mapper.site l.map in
    let e = near_side l.dir s l.input in
    (l.shape ≡ e) × (l.end ≡ size_of e) × (l.start ≤ size_of e)
    × (l.to ≡ with_those l.fn.to (added e (stepped l.dir (mapped s.op s.ins l.input) l.from) l.start))

abbrev pub decreases-loop-start : goal.decreases-loop-start
decreases-loop-start g l = l.end - l.start

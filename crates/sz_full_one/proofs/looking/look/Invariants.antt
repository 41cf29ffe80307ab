-- What was added is what the cells of the set add whose numbers are below the start.
use Rattle.std.proofs.Common.{◌≡◌, ◌-◌, ◌≤◌}
use Rattle.sz_cells.specs.Extent.{size_of}
use Rattle.sz_cells.specs.Cells.{with_those}
use Rattle.sz_spec.specs.Sides.{extent_before}
use Rattle.sz_frame.specs.Stands.{full_stands}
use Rattle.sz_frame.specs.Walks.{stepped, added}
use Rattle.sz_tables.specs.Rows.{pairings}
use Rattle.sz_full_one.specs.ByCells.{adds, side_of, IsDone}
use Rattle.sz_full_one.proofs.looking.look.Given as goal

abbrev pub invariant-loop-start : goal.invariant-loop-start
invariant-loop-start l =
    let t = l.table in
    let dir = side_of l.index in
    let e = extent_before dir t.out t.ins l.input in
    record {
      end : l.end ≡ size_of e;
      within : l.start ≤ size_of e;
      to : l.to ≡ with_those l.fn.to (added e (stepped dir (full_stands (pairings t) l.input) l.from) l.start);
      done : IsDone (adds t dir l.input) l.last l.to;
    }

abbrev pub decreases-loop-start : goal.decreases-loop-start
decreases-loop-start l = l.end - l.start

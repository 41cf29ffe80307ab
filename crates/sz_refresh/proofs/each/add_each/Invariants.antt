-- What was added is what the cells of the set add whose numbers are below the start.
use Rattle.std.proofs.Common.{◌≡◌, ◌-◌, ◌≤◌}
use Rattle.sz_cells.specs.Extent.{size_of}
use Rattle.sz_cells.specs.Cells.{with_those}
use Rattle.sz_spec.specs.declared.modes.Dir.TheVariants.{Forward}
use Rattle.sz_frame.specs.Walks.{stepped, added}
use Rattle.sz_refresh.proofs.each.add_each.Given as goal

abbrev pub invariant-loop-start : goal.invariant-loop-start
invariant-loop-start g l =
    let e = l.from.extent in
    (l.shape ≡ e) × (l.end ≡ size_of e) × (l.start ≤ size_of e)
    × (l.to ≡ with_those l.fn.to (added e (stepped Forward (g.A.Adder.adds l.adder) l.from) l.start))

abbrev pub decreases-loop-start : goal.decreases-loop-start
decreases-loop-start g l = l.end - l.start

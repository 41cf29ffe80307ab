-- What was added is what the cells of the set add whose numbers are below the start.
use Rattle.std.proofs.Common.{◌≡◌, ◌-◌, ◌≤◌}
use Rattle.sz_cells.specs.Extent.{size_of}
use Rattle.sz_cells.specs.Cells.{with_those}
use Rattle.sz_spec.specs.declared.modes.Dir.TheVariants.{Forward}
use Rattle.sz_spec.specs.Values.{extent_at}
use Rattle.sz_frame.specs.Walks.{stepped, added}
use Rattle.sz_tables.specs.Entries.{entries}
use Rattle.sz_payload.specs.Looks.{lone}
use Rattle.sz_payload.proofs.look.Look.firsts_forward.Given as goal

abbrev pub invariant-loop-start : goal.invariant-loop-start
invariant-loop-start l =
    let s = l.self.at.now in
    let e = extent_at s.ins 0 in
    record {
      end : l.end ≡ size_of e;
      within : l.start ≤ size_of e;
      to : l.to ≡ with_those l.fn.to
          (added e (stepped Forward (lone s (entries l.self.table.now) 0) l.from) l.start);
    }

abbrev pub decreases-loop-start : goal.decreases-loop-start
decreases-loop-start l = l.end - l.start

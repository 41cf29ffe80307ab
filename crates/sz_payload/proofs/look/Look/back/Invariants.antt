-- What was added is what the cells of the set add whose numbers are below the start.
use Rattle.std.proofs.Common.{◌≡◌, ◌-◌, ◌≤◌}
use Rattle.sz_cells.specs.Extent.{size_of}
use Rattle.sz_cells.specs.Cells.{with_those}
use Rattle.sz_spec.specs.declared.modes.Dir.TheVariants.{Back}
use Rattle.sz_frame.specs.Walks.{stepped, added}
use Rattle.sz_tables.specs.Entries.{entries}
use Rattle.sz_payload.specs.Kept.{entries_stand}
use Rattle.sz_payload.specs.Looks.{IsDone}
use Rattle.sz_payload.proofs.look.Look.back.Given as goal

abbrev pub invariant-loop-start : goal.invariant-loop-start
invariant-loop-start g l =
    let s = l.self.at.now in
    let t = l.self.table.now in
    record {
      end : l.end ≡ size_of s.out;
      within : l.start ≤ size_of s.out;
      to : l.to ≡ with_those l.fn.to
          (added s.out (stepped Back (entries_stand l.comp s (entries t) l.input) l.from) l.start);
      done : IsDone s t.payloads l.input l.last l.to;
    }

abbrev pub decreases-loop-start : goal.decreases-loop-start
decreases-loop-start g l = l.end - l.start

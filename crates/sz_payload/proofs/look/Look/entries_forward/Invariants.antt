-- What the entries before the row add was added, and what was tested last is so.
use Rattle.std.proofs.Common.{◌≡◌, length, take}
use Rattle.sz_cells.specs.Cells.{with_those}
use Rattle.sz_tables.specs.Entries.{entries}
use Rattle.sz_payload.specs.Looks.{IsTested, entries_add}
use Rattle.sz_payload.proofs.look.Look.entries_forward.Given as goal

abbrev pub invariant-loop-row : goal.invariant-loop-row
invariant-loop-row l =
    let s = l.self.at.now in
    let t = l.self.table.now in
    record {
      all : l.row-end ≡ length (entries t);
      added : l.to ≡ with_those l.fn.to (entries_add s l.input l.from (take l.row (entries t)));
      tested : IsTested s t.payloads l.input l.from l.last;
    }

-- The table has the entries so far, and no payload of another one.
use Rattle.std.proofs.Common.{◌≡◌, map, take}
use Rattle.std.specs.Arc.{arc_value}
use Rattle.std.specs.List.{All}
use Rattle.sz_tables.specs.Entries.{entries}
use Rattle.sz_tables.specs.Listed.{IsOneOf}
use Rattle.sz_tables.proofs.entry_table.EntryTable.of_entries.Given as goal

abbrev pub invariant-loop-entry : goal.invariant-loop-entry
invariant-loop-entry l = record {
  out : l.table.out ≡ l.initial.table.out;
  entries : entries l.table ≡ take l.entry-index (map (λ a. arc_value a) l.given);
  payloads : All (IsOneOf (map (λ e. e.payload) (take l.entry-index (map (λ a. arc_value a) l.given))))
      l.table.payloads;
}

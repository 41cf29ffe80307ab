-- The key idea: the sets whose numbers are below the index are listed, and are sets of the table's shape.
use Rattle.std.proofs.Common.{◌≡◌, ◌++◌, take}
use Rattle.std.specs.List.{AllWithin}
use Rattle.sz_cells.specs.SetBytes.{IsSetOf}
use Rattle.sz_tables.specs.Listing.{listed_as}
use Rattle.sz_tables.proofs.region_table.list_sets.Given as goal

abbrev pub invariant-loop-number : goal.invariant-loop-number
invariant-loop-number l = record {
  added : l.sets.items ≡ l.initial.sets.items ++ listed_as l.array (take l.number l.table.sets);
  each : AllWithin (IsSetOf l.table.extent) l.table.sets 0 l.number;
}

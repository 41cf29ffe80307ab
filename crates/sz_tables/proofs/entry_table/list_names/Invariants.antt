-- The key idea: the numbers of the rows before the index are listed.
use Rattle.std.proofs.Common.{◌≡◌, take}
use Rattle.std.specs.List.{flat_map}
use Rattle.sz_tables.specs.Entries.{numbers_of}
use Rattle.sz_tables.proofs.entry_table.list_names.Given as goal

abbrev pub invariant-loop-row : goal.invariant-loop-row
invariant-loop-row l = l.names.items ≡ flat_map numbers_of (take l.row-index l.rows)

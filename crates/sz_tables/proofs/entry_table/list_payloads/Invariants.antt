-- The key idea: the payloads whose numbers are below the index are listed.
use Rattle.std.proofs.Common.{◌≡◌, take}
use Rattle.sz_tables.proofs.entry_table.list_payloads.Given as goal

abbrev pub invariant-loop-number : goal.invariant-loop-number
invariant-loop-number l = l.payloads.items ≡ take l.number l.table.payloads

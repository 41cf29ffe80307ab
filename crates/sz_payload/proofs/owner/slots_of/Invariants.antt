-- The slots are those of the entries so far.
use Rattle.std.proofs.Common.{◌≡◌, ◌≤◌, take, length}
use Rattle.sz_tables.specs.Entries.{entries}
use Rattle.sz_payload.specs.Owned.{AreSlotsOf}
use Rattle.sz_payload.proofs.owner.slots_of.Given as goal

abbrev pub invariant-loop-row : goal.invariant-loop-row
invariant-loop-row l = AreSlotsOf l.table.out (take l.row (entries l.table)) l.slots.items

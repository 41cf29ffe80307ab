-- The names of the rows so far say their region pairs.
use Rattle.std.proofs.Common.{◌≡◌, map, take}
use Rattle.sz_tables.specs.Rows.{pairing_of}
use Rattle.sz_tables.specs.Checklists.{pair_named}
use Rattle.sz_tables.proofs.checklists.put_names.Given as goal

abbrev pub invariant-loop-row : goal.invariant-loop-row
invariant-loop-row l =
    map (pair_named l.table) l.to.items ≡ map (pairing_of l.table.outs l.table.sets) (take l.row l.table.rows)

-- The tables so far have no more.
use Rattle.std.proofs.Common.{◌≤◌, length, take}
use Rattle.std.specs.List.{All}
use Rattle.sz_tables.proofs.region_table.are_few.Given as goal

abbrev pub invariant-loop-table : goal.invariant-loop-table
invariant-loop-table l = All (λ t. length t.sets ≤ l.most) (take l.table-index l.tables)

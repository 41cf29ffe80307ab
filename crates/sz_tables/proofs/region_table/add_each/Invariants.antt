-- The key idea: the tables before the index have taken their sets, by the numbers that were appended, and those
-- from the index on are as they were.
use Rattle.std.proofs.Common.{◌≡◌, map}
use Rattle.std.specs.Arc.{arc_value}
use Rattle.std.specs.Vec.{vec_capacity}
use Rattle.sz_tables.proofs.Taking.{TakenTo}
use Rattle.sz_tables.proofs.region_table.add_each.Given as goal

abbrev pub invariant-loop-i : goal.invariant-loop-i
invariant-loop-i l = record {
  taken : TakenTo l.initial.tables l.tables (map (λ a. arc_value a) l.sets) l.initial.names.items l.names.items l.i;
  capacity : vec_capacity l.names ≡ vec_capacity l.initial.names;
}

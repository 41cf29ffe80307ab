-- Every table keeps its shape, and has no set.
use Rattle.std.proofs.Common.{◌≡◌, [], map, All}
use Rattle.sz_tables.proofs.room.make_room_in_each.Given as goal

abbrev pub invariant-loop-table : goal.invariant-loop-table
invariant-loop-table l = record {
  extents : map (λ t. t.extent) l.tables ≡ map (λ t. t.extent) l.initial.tables;
  none : All (λ t. t.sets ≡ []) l.tables;
}

-- The key idea: every table keeps its shape, its sets and its room, and those before the index have the room that is
-- asked for.
use Rattle.std.proofs.Common.{ℕ, ◌≡◌, ◌+◌, ◌<◌, ◌^◌, map, length, All}
use Rattle.std.specs.List.{AllWithin}
use Rattle.sz_tables.specs.Rows.{HasRoomFor}
use Rattle.sz_tables.proofs.region_table.reserve_each.Given as goal

abbrev pub invariant-loop-table : goal.invariant-loop-table
invariant-loop-table l = record {
  few : All (λ t. length t.sets + l.rows < 2 ^ 32) l.tables;
  extents : map (λ t. t.extent) l.tables ≡ map (λ t. t.extent) l.initial.tables;
  sets : map (λ t. t.sets) l.tables ≡ map (λ t. t.sets) l.initial.tables;
  kept : (rows runs : ℕ) → All (HasRoomFor rows runs) l.initial.tables → All (HasRoomFor rows runs) l.tables;
  done : AllWithin (HasRoomFor l.rows l.runs) l.tables 0 l.table-index;
}

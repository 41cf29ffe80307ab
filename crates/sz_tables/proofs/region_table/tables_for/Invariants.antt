-- The key idea: there is an empty table for each shape that was passed, in a list that never grows.
use Rattle.std.proofs.Common.{◌≡◌, map, take, length}
use Rattle.std.specs.Prelude.{vec_len, vec_capacity}
use Rattle.sz_tables.specs.Rows.{empty_sets}
use Rattle.sz_tables.proofs.region_table.tables_for.Given as goal

abbrev pub invariant-loop-shape : goal.invariant-loop-shape
invariant-loop-shape l = record {
  made : l.tables.items ≡ map empty_sets (take l.shape-index l.shapes);
  count : vec_len l.tables ≡ l.shape-index;
  capacity : vec_capacity l.tables ≡ length l.shapes;
}

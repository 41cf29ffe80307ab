-- The sets so far stand in the table under their numbers.
use Rattle.std.proofs.Common.{◌≡◌, ◌+◌, ◌≤◌, List, length}
use Rattle.std.specs.List.{All, AllZip, flat_map}
use Rattle.sz_cells.specs.Cells.{Cells}
use Rattle.sz_cells.specs.SetBytes.{IsSetOf, set_bytes}
use Rattle.sz_region.specs.Counted.{IsAt}
use Rattle.sz_tables.specs.Listed.{HasNumber}
use Rattle.sz_tables.proofs.entry_reading.take_sets.Given as goal

abbrev pub invariant-loop-index : goal.invariant-loop-index
invariant-loop-index l = record {
  listed : List Cells;
  count : length listed ≡ l._index;
  each : All (IsSetOf l.out) listed;
  bytes : IsAt l.bytes (l.at + 4) l.place (flat_map set_bytes listed);
  numbered : AllZip (HasNumber l.table.sets) l.numbers.items listed;
  extent : l.table.extent ≡ l.out;
  few : length l.table.sets ≤ l._index;
}

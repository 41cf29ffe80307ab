-- The rows so far are those of the names that stand one behind the other.
use Rattle.std.proofs.Common.{◌≡◌, ℕ, ◌+◌, List, length}
use Rattle.std.specs.List.{AllZip, flat_map}
use Rattle.sz_cells.specs.SetBytes.{four_bytes}
use Rattle.sz_region.specs.Counted.{IsAt}
use Rattle.sz_tables.specs.Listed.{AreNamesOfRow}
use Rattle.sz_tables.proofs.entry_reading.take_rows.Given as goal

abbrev pub invariant-loop-index : goal.invariant-loop-index
invariant-loop-index l = record {
  names : List (List ℕ);
  count : length l.rows.items ≡ l._index;
  named : AllZip (AreNamesOfRow l.outs l.bodies) names l.rows.items;
  bytes : IsAt l.bytes (l.at + 4) l.place (flat_map (flat_map four_bytes) names);
}

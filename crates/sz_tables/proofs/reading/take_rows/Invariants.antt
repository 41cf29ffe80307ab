-- The numbers so far are as many rows as were read, each of the places that its names lead to.
use Rattle.std.proofs.Common.{◌≡◌, ℕ, ◌+◌, ◌*◌, List, length}
use Rattle.std.specs.List.{AllZip, flat_map}
use Rattle.sz_cells.specs.SetBytes.{four_bytes}
use Rattle.sz_region.specs.Counted.{IsAt}
use Rattle.sz_tables.specs.Rows.{rows_of}
use Rattle.sz_tables.specs.Placing.{IsRowNamed}
use Rattle.sz_tables.proofs.reading.take_rows.Given as goal

abbrev pub invariant-loop-index : goal.invariant-loop-index
invariant-loop-index l = record {
  rows : List (List ℕ);
  whole : length l.names.items ≡ l._index * (l.inputs + 1);
  named : AllZip (IsRowNamed l.places l.inputs) rows (rows_of l.inputs l._index l.names.items);
  bytes : IsAt l.bytes (l.at + 4) l.place (flat_map (flat_map four_bytes) rows);
}

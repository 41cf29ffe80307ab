-- The numbers so far are those of the places that the names lead to, one array after the other.
use Rattle.std.proofs.Common.{◌≡◌, ℕ, List, ◌++◌, length}
use Rattle.std.specs.List.{flat_map}
use Rattle.sz_cells.specs.SetBytes.{four_bytes}
use Rattle.sz_region.specs.Counted.{IsAt}
use Rattle.sz_region.specs.FullBytes.{AreNumbersOf}
use Rattle.sz_tables.specs.Placing.{places_from}
use Rattle.sz_tables.proofs.reading.take_row.Given as goal

abbrev pub invariant-loop-array : goal.invariant-loop-array
invariant-loop-array l = record {
  ns : List ℕ;
  ks : List ℕ;
  count : length ks ≡ l.array;
  added : l.names.items ≡ l.initial.names.items ++ ks;
  named : AreNumbersOf l.places ns (places_from 0 ks);
  bytes : IsAt l.bytes l.at l.place (flat_map four_bytes ns);
}

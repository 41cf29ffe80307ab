-- The entries so far are those of the rows of numbers that stand one behind the other.
use Rattle.std.proofs.Common.{◌≡◌, ℕ, ◌+◌, List, length, map}
use Rattle.std.specs.Arc.{arc_value}
use Rattle.std.specs.List.{AllZip, flat_map}
use Rattle.sz_cells.specs.SetBytes.{four_bytes}
use Rattle.sz_region.specs.Counted.{IsAt}
use Rattle.sz_region.specs.PayBytes.{AreNamesOfEntry}
use Rattle.sz_region.proofs.take_pay.take_rows.Given as goal

abbrev pub invariant-loop-index : goal.invariant-loop-index
invariant-loop-index l = record {
  count : length l.entries.items ≡ l._index;
  rows : List (List ℕ);
  named : AllZip (AreNamesOfEntry (map (λ s. arc_value s) l.sets) (map (λ p. arc_value p) l.payloads)) rows
      (map (λ x. arc_value x) l.entries.items);
  bytes : IsAt l.bytes (l.at + 4) l.place (flat_map (flat_map four_bytes) rows);
}

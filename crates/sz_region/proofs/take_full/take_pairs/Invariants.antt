-- The region pairs so far are those of the rows of numbers that stand one behind the other.
use Rattle.std.proofs.Common.{◌≡◌, ℕ, ◌+◌, List, length, map}
use Rattle.std.specs.Arc.{arc_value}
use Rattle.std.specs.List.{AllZip, flat_map}
use Rattle.sz_cells.specs.SetBytes.{four_bytes}
use Rattle.sz_region.specs.Counted.{IsAt}
use Rattle.sz_region.specs.FullBytes.{AreNamesOf}
use Rattle.sz_region.proofs.take_full.take_pairs.Given as goal

abbrev pub invariant-loop-index : goal.invariant-loop-index
invariant-loop-index l = record {
  count : length l.regions.items ≡ l._index;
  rows : List (List ℕ);
  named : AllZip (AreNamesOf l.table l.inputs) rows (map (λ x. arc_value x) l.regions.items);
  bytes : IsAt l.bytes (l.at + 4) l.place (flat_map (flat_map four_bytes) rows);
}

-- So many sets stand one behind the other.
use Rattle.std.proofs.Common.{◌≡◌, ◌+◌, length, map}
use Rattle.std.specs.Arc.{arc_value}
use Rattle.std.specs.List.{All, flat_map}
use Rattle.sz_cells.specs.SetBytes.{IsSetOf, set_bytes}
use Rattle.sz_region.specs.Counted.{IsAt}
use Rattle.sz_region.proofs.take_pay.take_out_sets.Given as goal

abbrev pub invariant-loop-index : goal.invariant-loop-index
invariant-loop-index l = record {
  count : length l.table.items ≡ l._index;
  each : All (IsSetOf l.out) (map (λ s. arc_value s) l.table.items);
  bytes : IsAt l.bytes (l.at + 4) l.place (flat_map set_bytes (map (λ s. arc_value s) l.table.items));
}

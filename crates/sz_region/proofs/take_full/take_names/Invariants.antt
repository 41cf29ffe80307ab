-- The sets so far are those of the numbers that stand one behind the other.
use Rattle.std.proofs.Common.{◌≡◌, ℕ, List, length, map}
use Rattle.std.specs.Arc.{arc_value}
use Rattle.std.specs.List.{flat_map}
use Rattle.sz_cells.specs.SetBytes.{four_bytes}
use Rattle.sz_region.specs.Counted.{IsAt}
use Rattle.sz_region.specs.FullBytes.{listed_from, AreNumbersOf}
use Rattle.sz_region.proofs.take_full.take_names.Given as goal

abbrev pub invariant-loop-input : goal.invariant-loop-input
invariant-loop-input l = record {
  count : length l.sets.items ≡ l.input;
  names : List ℕ;
  named : AreNumbersOf l.table names (listed_from 1 (map (λ s. arc_value s) l.sets.items));
  bytes : IsAt l.bytes l.at l.place (flat_map four_bytes names);
}

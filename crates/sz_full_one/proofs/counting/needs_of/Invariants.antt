-- The region pairs before this one were counted.
use Rattle.std.proofs.Common.{◌≡◌, map, take}
use Rattle.std.specs.Prelude.{sum_by}
use Rattle.std.specs.Arc.{arc_value}
use Rattle.sz_tables.specs.Rows.{weight_of}
use Rattle.sz_full_one.specs.ByCells.{pair_cells}
use Rattle.sz_full_one.proofs.counting.needs_of.Given as goal

abbrev pub invariant-loop-region : goal.invariant-loop-region
invariant-loop-region l = record {
  runs : l.needs.runs ≡ sum_by weight_of (map (λ a. arc_value a) (take l.region-index l.regions));
  cells : l.needs.cells ≡ sum_by pair_cells (map (λ a. arc_value a) (take l.region-index l.regions));
}

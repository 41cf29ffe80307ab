-- The region pairs before this one were added, and there is room for the others.
use Rattle.std.proofs.Common.{◌≡◌, ◌≤◌, ◌++◌, map, take, drop, length}
use Rattle.std.specs.Prelude.{sum_by}
use Rattle.std.specs.Arc.{arc_value}
use Rattle.sz_tables.specs.Rows.{pairings, weight_of}
use Rattle.sz_full_one.specs.ByCells.{IsIndexOf, HasRoom, pair_cells, index_capacities}
use Rattle.sz_full_one.proofs.adding.add_regions.Given as goal

abbrev pub invariant-loop-region : goal.invariant-loop-region
invariant-loop-region l = record {
  pairings : pairings l.table ≡ pairings l.fn.table ++ map (λ a. arc_value a) (take l.region-index l.regions);
  index : IsIndexOf l.table l.index;
  out : l.table.out ≡ l.fn.table.out;
  ins : l.table.ins ≡ l.fn.table.ins;
  rows : length (drop l.region-index l.regions) ≤ l.table.spare_rows;
  runs : sum_by weight_of (map (λ a. arc_value a) (drop l.region-index l.regions)) ≤ l.table.spare_runs;
  room : HasRoom (sum_by pair_cells (map (λ a. arc_value a) (drop l.region-index l.regions)))
      (length (drop l.region-index l.regions)) l.index;
  capacities : l.table.capacities ≡ l.fn.table.capacities;
  index_capacities : index_capacities l.index ≡ index_capacities l.fn.index;
}

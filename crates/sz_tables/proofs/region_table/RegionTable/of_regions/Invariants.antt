-- The table has the region pairs so far.
use Rattle.std.proofs.Common.{◌≡◌, map, take}
use Rattle.std.specs.Arc.{arc_value}
use Rattle.sz_tables.specs.Rows.{pairings}
use Rattle.sz_tables.proofs.region_table.RegionTable.of_regions.Given as goal

abbrev pub invariant-loop-region : goal.invariant-loop-region
invariant-loop-region l = record {
  out : l.table.out ≡ l.initial.table.out;
  ins : l.table.ins ≡ l.initial.table.ins;
  pairs : pairings l.table ≡ take l.region-index (map (λ a. arc_value a) l.regions);
}

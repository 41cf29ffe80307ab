-- The sets of the region pairs before this one were numbered.
use Rattle.std.proofs.Common.{◌≡◌, ◌≤◌, ◌+◌, ◌*◌, length, map, take}
use Rattle.std.specs.Arc.{arc_value}
use Rattle.sz_region.specs.Putting.{AreRegionsNumbered}
use Rattle.sz_region.proofs.put_full.number_regions.Given as goal

abbrev pub invariant-loop-region : goal.invariant-loop-region
invariant-loop-region l = record {
  numbered : AreRegionsNumbered l.sets.items l.names.items (map (λ r. arc_value r) (take l.region-index l.regions));
  count : length l.names.items ≡ l.region-index * (1 + l.inputs);
  before : l.before ≤ length l.names.items;
}

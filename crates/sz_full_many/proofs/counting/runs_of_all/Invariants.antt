-- The sum goes over the region pairs so far.
use Rattle.std.proofs.Common.{◌≡◌, ◌≤◌, ◌+◌, ◌*◌, length, take, map}
use Rattle.std.specs.Prelude.{sum_by}
use Rattle.std.specs.Arc.{arc_value}
use Rattle.sz_tables.specs.Rows.{weight_of}
use Rattle.sz_tables.specs.Stores.{cells_in}
use Rattle.sz_full_many.proofs.counting.runs_of_all.Given as goal

abbrev pub invariant-loop-region : goal.invariant-loop-region
invariant-loop-region l = record {
  runs : l.runs ≡ sum_by weight_of (take l.region-index (map (λ a. arc_value a) l.regions));
  few : l.runs ≤ l.region-index * 3145728;
  cells : sum_by (λ r. cells_in r.out + sum_by cells_in r.ins)
      (take l.region-index (map (λ a. arc_value a) l.regions)) ≤ l.runs * 1048576;
}

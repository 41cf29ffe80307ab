-- The output set and the sets of the inputs before this one were counted.
use Rattle.std.proofs.Common.{◌≡◌, ◌+◌, map, take}
use Rattle.std.specs.Prelude.{sum_by}
use Rattle.std.specs.Arc.{arc_value}
use Rattle.sz_tables.specs.Rows.{runs_in}
use Rattle.sz_tables.specs.Stores.{cells_in}
use Rattle.sz_full_one.proofs.counting.with_region.Given as goal

abbrev pub invariant-loop-set : goal.invariant-loop-set
invariant-loop-set l = record {
  runs : l.sum.runs ≡ l.fn.needs.runs + (runs_in l.region.out
      + sum_by runs_in (map (λ a. arc_value a) (take l.set-index l.set-items)));
  cells : l.sum.cells ≡ l.fn.needs.cells + (cells_in l.region.out
      + sum_by cells_in (map (λ a. arc_value a) (take l.set-index l.set-items)));
}

-- The sum goes over the sets so far.
use Rattle.std.proofs.Common.{◌≡◌, ◌≤◌, ◌+◌, ◌*◌, take}
use Rattle.std.specs.Prelude.{sum_by}
use Rattle.sz_tables.specs.Rows.{runs_in}
use Rattle.sz_tables.specs.Stores.{cells_in}
use Rattle.sz_tables.proofs.sets.runs_of_region.Given as goal

abbrev pub invariant-loop-set : goal.invariant-loop-set
invariant-loop-set l = record {
  runs : l.runs ≡ runs_in l.region.out + sum_by runs_in (take l.set-index l.region.ins);
  few : l.runs ≤ (l.set-index + 1) * 1048576;
  cells : cells_in l.region.out + sum_by cells_in (take l.set-index l.region.ins) ≤ l.runs * 1048576;
}

-- The key idea: the count is that of the sets that were passed.
use Rattle.std.proofs.Common.{◌≡◌, map, take}
use Rattle.std.specs.List.{sum_by}
use Rattle.std.specs.Arc.{arc_value}
use Rattle.sz_tables.specs.Rows.{runs_in}
use Rattle.sz_tables.proofs.region_table.runs_of_each.Given as goal

abbrev pub invariant-loop-set : goal.invariant-loop-set
invariant-loop-set l = l.count ≡ sum_by runs_in (take l.set-index (map (λ a. arc_value a) l.sets))

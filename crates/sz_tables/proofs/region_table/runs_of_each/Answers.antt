-- The key idea: no part of a sum is greater than the whole.
use Rattle.std.proofs.Common.{◌+◌, map, length, arith, ap}
use Rattle.std.specs.Arc.{arc_value}
use Rattle.std.proofs.lemmas.List.Sums.{sum_by-take-le}
use Rattle.sz_tables.specs.Rows.{runs_in}
use Rattle.sz_tables.proofs.Taking.{read-sum}
use Rattle.sz_tables.proofs.region_table.runs_of_each.Goals as goal

pub overflow_add-count : goal.overflow_add-count
overflow_add-count c =
    let next = read-sum runs_in (λ a. arc_value a) c.args.sets.now c.loop-set.set-index c.set-item.result
    c.deref.result.now (omega arith) c.set-item.is c.deref.ensures in
    let whole = sum_by-take-le runs_in (map (λ a. arc_value a) c.args.sets.now) (c.loop-set.set-index + 1) in
    let long = ap length c.runs.ensures.only in
    omega (arith, c.requires)

pub loop-set-preserved : goal.loop-set-preserved
loop-set-preserved c =
    let next = read-sum runs_in (λ a. arc_value a) c.args.sets.now c.loop-set.set-index c.set-item.result
    c.deref.result.now (omega arith) c.set-item.is c.deref.ensures in
    let long = ap length c.runs.ensures.only in
    omega arith

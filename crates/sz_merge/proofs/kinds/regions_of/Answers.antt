-- The runs of the number at hand are gathered.
use Rattle.std.proofs.Common.{[], ◌<◌, map, length, sym, subst, arith}
use Rattle.std.specs.Arc.{arc_value}
use Rattle.sz_cells.specs.Extent.{size_of}
use Rattle.sz_cells.specs.Runs.{AreRunsFrom}
use Rattle.sz_merge.proofs.Sorting.{kinds-more}
use Rattle.sz_merge.proofs.kinds.regions_of.Goals as goal

pub add_kind-requires-clause-runs : goal.add_kind-requires-clause-runs
add_kind-requires-clause-runs c =
    let n = c.loop-number.number in
    let inside : n < length c.args.groups.now = omega (arith, c.loop-number-test.true, c.requires.many) in
    subst (AreRunsFrom 0 (size_of c.args.out)) (sym c.in_ok-put_runs.ensures) (c.requires.groups n [] inside)

pub loop-number-preserved : goal.loop-number-preserved
loop-number-preserved c =
    kinds-more c.args.out c.args.groups.now c.args.lists.now c.loop-number.number
    (map (λ a. arc_value a) c.loop-number.regions.items) (map (λ a. arc_value a) c.add_kind.new.regions.items)
    c.put_runs.new.runs.items c.loop-number.invariant c.in_ok-put_runs.ensures c.in_ok-add_kind.ensures

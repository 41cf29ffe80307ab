-- The run is behind all runs so far.
use Rattle.std.proofs.Common.{sym, subst, arith}
use Rattle.sz_cells.proofs.Runs.{runs-at}
use Rattle.sz_ops_region.specs.Sets.{HasRuns}
use Rattle.sz_ops_region.proofs.Sets.{runs-add}
use Rattle.sz_ops_region.proofs.run_lists.RunList.add.Goals as goal

pub add_run-requires-clause-later : goal.add_run-requires-clause-later
add_run-requires-clause-later c k d below =
    let has = subst (HasRuns c.args.marks.now c.args.run.first c.args.number) (sym c.self.view_is) c.requires.runs in
    omega (arith, runs-at 0 c.args.run.first c.self.inside.runs.items k d has.longest below)

pub returns : goal.returns
returns c =
    let has = subst (HasRuns c.args.marks.now c.args.run.first c.args.number) (sym c.self.view_is) c.requires.runs in
    runs-add c.args.marks.now c.args.number c.args.run c.self.inside.runs.items c.add_run.new.runs.items has
    c.requires.order c.requires.number c.in_ok-add_run.ensures.longest c.in_ok-add_run.ensures.added

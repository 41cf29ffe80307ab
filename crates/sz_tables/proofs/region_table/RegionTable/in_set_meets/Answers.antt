-- The runs are the longest ones of the set.
use Rattle.std.proofs.Common.{◌∙◌}
use Rattle.sz_tables.proofs.MetRuns.{runs-fit, runs-met}
use Rattle.sz_tables.proofs.region_table.RegionTable.in_set_meets.Goals as goal

pub runs_meet-requires : goal.runs_meet-requires
runs_meet-requires c = runs-fit _ _ _ _ c.in_runs.ensures.set c.requires.from c.in_runs.ensures.runs

pub returns : goal.returns
returns c =
    c.runs_meet.ensures.met
    ∙ runs-met _ _ c.args.from.now _ c.in_runs.ensures.set c.requires.from c.runs_meet.ensures.rising
    c.in_runs.ensures.runs

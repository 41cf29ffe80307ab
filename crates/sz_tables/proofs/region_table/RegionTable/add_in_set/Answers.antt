-- The runs are the longest ones of the set.
use Rattle.sz_tables.proofs.MetRuns.{runs-fit, runs-added}
use Rattle.sz_tables.proofs.region_table.RegionTable.add_in_set.Goals as goal

pub add_runs-requires : goal.add_runs-requires
add_runs-requires c = runs-fit _ _ _ _ c.in_runs.ensures.set c.requires.to c.in_runs.ensures.runs

pub returns : goal.returns
returns c = runs-added _ _ _ _ _ c.in_runs.ensures.set c.requires.to c.in_runs.ensures.runs c.add_runs.ensures

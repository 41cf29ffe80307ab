-- The key idea: runs that rise with gaps are those of rising indexes.
use Rattle.sz_tables.proofs.Longest.{set-of_runs}
use Rattle.sz_tables.proofs.region_table.RegionTable.out_runs.Goals as goal

pub returns-clause-set : goal.returns-clause-set
returns-clause-set c =
    rw (← c.self.view_is) (set-of_runs _ _ _ c.runs.ensures.extent c.runs.ensures.runs c.runs.ensures.longest)

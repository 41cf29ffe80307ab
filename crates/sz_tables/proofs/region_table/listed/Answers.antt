-- The key idea: the longest runs of a set spell it.
use Rattle.std.proofs.Common.{refl}
use Rattle.sz_cells.specs.Extent.{size_of}
use Rattle.sz_cells.specs.Rising.{AreRising}
use Rattle.sz_cells.proofs.Runs.{spelled-runs_of}
use Rattle.sz_tables.specs.Rows.{set_at}
use Rattle.sz_tables.proofs.Longest.{rising-from_runs}
use Rattle.sz_tables.proofs.region_table.listed.Goals as goal
use Rattle.sz_tables.proofs.region_table.listed.Goals.{After-runs}

-- the indexes of the set rise
rising : (c : After-runs) → AreRising 0 (size_of c.args.table.now.extent)
    (set_at c.args.table.now.sets c.args.number).indexes
rising c =
    rising-from_runs 0 (size_of c.args.table.now.extent) _ (rw c.runs.ensures.runs at c.runs.ensures.longest)

pub returns-clause-value : goal.returns-clause-value
returns-clause-value c =
    let s = (goal.at.returns-clause-value c).After-runs in
    let set = set_at s.args.table.now.sets s.args.number in
    rw (
      c.runs.ensures.runs,
      spelled-runs_of 0 (size_of s.args.table.now.extent) set.indexes (rising s),
      c.shape.ensures,
      ← c.runs.ensures.extent,
    ) refl

pub returns-clause-right : goal.returns-clause-right
returns-clause-right c =
    let s = (goal.at.returns-clause-right c).After-runs in
    record { extent = s.runs.ensures.extent; rising = rising s }

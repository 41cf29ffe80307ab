-- The rectangle has the cells of the runs so far.
use Rattle.std.proofs.Common.{take}
use Rattle.std.specs.List.{All}
use Rattle.sz_tables.specs.Sets.{IsRoundRun}
use Rattle.sz_tables.proofs.sets.bounds_of_runs.Given as goal

abbrev pub invariant-loop-run : goal.invariant-loop-run
invariant-loop-run l = All (IsRoundRun l.shape l.bounds) (take l.run-index l.runs)

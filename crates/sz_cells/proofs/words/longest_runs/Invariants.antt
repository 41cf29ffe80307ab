-- The runs so far are those of the bits below a number, which rises each turn.
use Rattle.std.proofs.Common.{◌-◌, ◌*◌}
use Rattle.sz_cells.proofs.WordRuns.{RunsTo}
use Rattle.sz_cells.proofs.words.longest_runs.Given as goal

abbrev pub invariant-loop-start : goal.invariant-loop-start
invariant-loop-start l = RunsTo l.words l.runs.items l.from

-- how many indexes are left
abbrev pub decreases-loop-start : goal.decreases-loop-start
decreases-loop-start l = l.end * 64 - l.from

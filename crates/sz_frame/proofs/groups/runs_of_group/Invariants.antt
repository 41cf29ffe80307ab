-- The runs so far cover the first cell of the group, and those of its kind up to this one.
use Rattle.sz_frame.proofs.Grouping.{HasRuns}
use Rattle.sz_frame.proofs.groups.runs_of_group.Given as goal

abbrev pub invariant-loop-next : goal.invariant-loop-next
invariant-loop-next l = HasRuns l.fn.shape l.start l.kept l.place l.next l.runs.items

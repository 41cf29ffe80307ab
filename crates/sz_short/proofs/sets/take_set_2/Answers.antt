-- The runs are the longest ones of the set.
use Rattle.sz_short.proofs.ShortRuns.{reads-set}
use Rattle.sz_short.proofs.sets.take_set_2.Goals as goal

pub returns-clause-ok : goal.returns-clause-ok
returns-clause-ok c =
    reads-set c.args.shape c.args.bytes.now c.args.at c.in_ok-runs.next c.in_ok-runs.runs.items c.from_runs.result
    c.in_ok-runs.ensures.longest c.in_ok-runs.ensures.bytes c.from_runs.ensures

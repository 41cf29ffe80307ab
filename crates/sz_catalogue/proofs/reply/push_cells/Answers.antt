-- Each run of a set rises, and lies within its shape.
use Rattle.sz_catalogue.proofs.Texts.{run-within}
use Rattle.sz_catalogue.proofs.reply.push_cells.Goals as goal

pub push_run-requires-clause-rising : goal.push_run-requires-clause-rising
push_run-requires-clause-rising c =
    (run-within 0 _ _ c.loop-run.run-index _ c.runs-run-items.ensures.spelled.longest c.loop-run-test.true).0

pub push_run-requires-clause-within : goal.push_run-requires-clause-within
push_run-requires-clause-within c =
    rw c.shape-shape.ensures.value
    (run-within 0 _ _ c.loop-run.run-index _ c.runs-run-items.ensures.spelled.longest c.loop-run-test.true).1

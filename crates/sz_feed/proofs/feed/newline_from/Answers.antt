-- One more byte that is no byte 10.
use Rattle.sz_feed.proofs.Cuts.{within-more-from}
use Rattle.sz_feed.proofs.feed.newline_from.Goals as goal

pub loop-at-preserved : goal.loop-at-preserved
loop-at-preserved c =
    within-more-from _ _ _ c.loop-at.auto.at c.loop-at-test.true c.if-chunk-at-eq10.false c.loop-at.invariant

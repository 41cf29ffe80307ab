-- The bytes so far are blank, so one that is not comes before their end.
use Rattle.std.proofs.Common.{sym, ◌∙◌}
use Rattle.sz_feed.proofs.Blanks.{blank-more}
use Rattle.sz_feed.proofs.feed.first_filled.Goals as goal

pub loop-at-preserved : goal.loop-at-preserved
loop-at-preserved c = blank-more c.args.bytes.now c.loop-at.at c.loop-at.invariant (sym c.is_blank.ensures
    ∙ c.if-not-is_blank.false)

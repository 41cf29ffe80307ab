-- One line more.
use Rattle.std.proofs.Common.{◌∙◌, refl, arith}
use Rattle.sz_feed.proofs.Waiting.{told-next}
use Rattle.sz_feed.proofs.feed.reply_texts.Goals as goal

pub loop-place-preserved : goal.loop-place-preserved
loop-place-preserved c = record {
  end = refl;
  text = c.in_ok-extend_from_slice.ensures.items
      ∙ told-next c.args.lines.now c.args.replies.now c.loop-place.place c.index-lines-place.result
      c.index-replies-place.result _ _ (omega (arith, c.loop-place-test.true, c.loop-place.invariant.end)) c.requires
      c.index-lines-place.is c.index-replies-place.is c.loop-place.invariant.text
      (c.deref.ensures.value ∙ c.in_ok-line.ensures);
}

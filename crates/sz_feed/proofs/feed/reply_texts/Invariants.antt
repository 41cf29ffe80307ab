-- The text so far is that of the lines before the number.
use Rattle.std.proofs.Common.{◌≡◌, take, length}
use Rattle.sz_feed.specs.Waiting.{told_text}
use Rattle.sz_feed.proofs.feed.reply_texts.Given as goal

abbrev pub invariant-loop-place : goal.invariant-loop-place
invariant-loop-place l = record {
  end : l.place-end ≡ length l.lines;
  text : l.text.items ≡ told_text (take l.place l.lines) (take l.place l.replies);
}

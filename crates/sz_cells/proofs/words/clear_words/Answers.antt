-- A word of 0 has no bit that is 1, and the other words stay.
use Rattle.sz_cells.proofs.Bitmaps.{clear-more, clear-kept}
use Rattle.std.proofs.Common.{◌<◌, length, arith}
use Rattle.sz_cells.proofs.words.clear_words.Goals as goal

pub loop-word-preserved : goal.loop-word-preserved
loop-word-preserved c =
    let inside : c.loop-word.word < length c.loop-word.words = omega arith in (
      clear-more c.loop-word.words c.loop-word.word inside c.loop-word.invariant.0,
      λ k past. clear-kept c.loop-word.words c.loop-word.word k inside (c.loop-word.invariant.1 k past),
    )

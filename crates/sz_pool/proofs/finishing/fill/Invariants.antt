-- Each reply names a later piece, and of the pieces before it those were made that the pass had not seen at first.
use Rattle.std.proofs.Common.{◌-◌}
use Rattle.sz_spec.specs.Pieces.{pieces_of}
use Rattle.sz_pool.proofs.Filling.{IsFilling, frontier}
use Rattle.sz_pool.proofs.finishing.fill.Given as goal

abbrev pub invariant-loop-reply : goal.invariant-loop-reply
invariant-loop-reply g l = IsFilling l.maker.at.now.out l.fn.pass l.pass l.reply l.fn.tally l.tally

abbrev pub decreases-loop-reply : goal.decreases-loop-reply
decreases-loop-reply g l =
    let n = pieces_of l.maker.at.now.out in n - frontier n l.reply

-- Each turn goes on to where the cell's own cell is linked.
use Rattle.sz_ops_region.proofs.Roots.{way-on}
use Rattle.sz_ops_region.proofs.links.root_of.Goals as goal

pub bounds-words-up : goal.bounds-words-up
bounds-words-up c =
    (way-on c.args.words.now c.loop-at.words c.args.start c.loop-at.at c.loop-at.invariant).0

pub loop-at-smaller : goal.loop-at-smaller
loop-at-smaller c =
    ((way-on c.args.words.now c.loop-at.words c.args.start c.loop-at.at c.loop-at.invariant).1 c.if-up-at.false).0

pub loop-at-preserved : goal.loop-at-preserved
loop-at-preserved c =
    ((way-on c.args.words.now c.loop-at.words c.args.start c.loop-at.at c.loop-at.invariant).1 c.if-up-at.false).1

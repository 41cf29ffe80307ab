-- The cell to which a cell is linked is no later one.
use Rattle.std.proofs.Common.{arith}
use Rattle.sz_ops_region.proofs.links.settle.Goals as goal
use Rattle.sz_ops_region.proofs.links.settle.Goals.{then-word-eq0, else-word-eq0}

pub bounds-words-at : goal.bounds-words-at
bounds-words-at c =
    elim c.if-word-eq0.branch [
      | then-word-eq0 w ↦ omega (arith, w.at-is, c.requires.index)
      | else-word-eq0 w ↦ omega (
        arith,
        w.at-is,
        c.requires.index,
        c.requires.down c.if-word-eq0.at (omega (arith, w.at-is, w.if-word-eq0.false)),
      )
    ]

-- The cell has a link, and the root that is looked for; the same cells have links as at first, and all keep their
-- roots.
use Rattle.sz_ops_region.proofs.Roots.{IsOnWay}
use Rattle.sz_ops_region.proofs.links.root_of.Given as goal

abbrev pub invariant-loop-at : goal.invariant-loop-at
invariant-loop-at l = IsOnWay l.fn.words l.words l.start l.at

abbrev pub decreases-loop-at : goal.decreases-loop-at
decreases-loop-at l = l.at

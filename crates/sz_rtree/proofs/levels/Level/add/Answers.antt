-- The key idea: a rectangle with no box yet comes right where the full boxes end, so its box is the next one.
use Rattle.std.proofs.Common.{arith}
use Rattle.sz_rtree.proofs.Boxes.{HasBoxes-push}
use Rattle.sz_rtree.proofs.levels.Level.add.Goals as goal

pub returns-else-place-len-clause-covers : goal.returns-else-place-len-clause-covers
returns-else-place-len-clause-covers c = λ rectangles count has.
    rw c.push_reserved.ensures.items
    (HasBoxes-push rectangles c.args.self.now.boxes.items c.args.self.now.span c.args.bounds
    (rw count (omega arith)) has)

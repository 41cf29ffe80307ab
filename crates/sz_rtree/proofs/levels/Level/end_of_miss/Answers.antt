-- The key idea: the box that was looked at is round every number up to where the next box begins.
use Rattle.std.proofs.Common.{◌<◌, ◌/◌, length}
use Rattle.std.proofs.lemmas.Bool.{false≢true}
use Rattle.sz_rtree.proofs.Boxes.{clears, place_below}
use Rattle.sz_rtree.proofs.levels.Level.end_of_miss.Goals as goal

pub returns-else-overlap-clause-missed : goal.returns-else-overlap-clause-missed
returns-else-overlap-clause-missed c = λ rectangles has.
    let level = c.args.self.now in
    let inside : c.args.number / level.span < length level.boxes.items =
    place_below c.args.number level.span (length level.boxes.items) c.requires.positive
    (rw (← level.boxes.ok.0) c.requires.inside) in
    clears rectangles level.boxes.items level.span c.args.number c.args.bounds.now c.index.result.now has inside
    c.index.ensures (λ o. false≢true (c.if-overlap.ensures.1 o))

use Rattle.std.proofs.Common.{sym, subst, ◌∙◌, ◌≡◌, ◌<◌, IfOk, true, All}
use Rattle.sz_core.specs.States.{Shelf}
use Rattle.sz_core.specs.Events.{place_reply, after_place}
use Rattle.sz_shelf.specs.declared.rule.View.{View}
use Rattle.sz_shelf.specs.Tags.{Tag, tag_pieces}
use Rattle.sz_shelf.specs.Apart.{HasImages}
use Rattle.sz_shelf.specs.Passes.{Stays}
use Rattle.sz_shelf.specs.Machine.{shelf_of, told_of_place}
use Rattle.sz_shelf.proofs.Turning.{turn-of, placed-stays, tag-stays, inside-tag}
use Rattle.sz_shelf.proofs.Telling.{place-tells, place-leaves, found-is, left-is}
use Rattle.sz_shelf.proofs.shelf.Shelf.place_as.Given.{Over}
use Rattle.sz_shelf.proofs.shelf.Shelf.place_as.Goals.{After-leave}
use Rattle.sz_shelf.proofs.shelf.Shelf.place_as.Goals as goal

-- the piece is one of the output
inside : (g : Over) (c : After-leave g) → c.args.lineage.now.piece < tag_pieces c.enter.new.seat.me.0.tag
inside g c = inside-tag _ _ _ _ _ _ c.pass.view_is c.enter.ensures.entered c.requires.piece

-- what the turn did to what the seat knew
stays : (g : Over) (c : After-leave g) → Stays c.enter.new.seat.me.0 c.place-placed.new.seat.me.0
stays g c =
    let placed = c.place-placed.ensures in
    placed-stays _ _ _ _ _ c.enter.ensures.entered (inside g c) placed.answer placed.new placed.other

pub place-placed-requires-clause-images : goal.place-placed-requires-clause-images
place-placed-requires-clause-images g c =
    subst (λ (t : Tag). c.args.images ≡ true → All (HasImages t.site t.inputs) c.args.lineage.now.regions)
    (tag-stays _ _ _ _ _ c.pass.view_is c.enter.ensures.entered) c.requires.images

pub returns-clause-turn : goal.returns-clause-turn
returns-clause-turn g c =
    turn-of _ _ _ _ _ _ _ _ _ c.pass.view_is
    (c.leave.ensures.own ∙ c.place-placed.ensures.own ∙ c.enter.ensures.own) c.leave.ensures.left
    c.enter.ensures.entered (stays g (goal.at.returns-clause-turn g c).After-leave)

pub returns-clause-told : goal.returns-clause-told
returns-clause-told g c =
    let at = (goal.at.returns-clause-told g c).After-leave in
    let w : View = c.enter.new.seat.me.0 in
    let k = c.args.lineage.now.piece in
    let r = c.place-placed.result in
    subst (λ (x : Shelf). IfOk r (λ p. told_of_place p ≡ place_reply k x))
    (sym (found-is _ _ _ _ c.leave.ensures.left c.enter.ensures.entered (stays g at)))
    (place-tells w.tag w.seen w.saw k r (inside g at) c.place-placed.ensures.answer)

pub returns-clause-left : goal.returns-clause-left
returns-clause-left g c =
    let at = (goal.at.returns-clause-left g c).After-leave in
    let w : View = c.enter.new.seat.me.0 in
    let y : View = c.place-placed.new.seat.me.0 in
    let q : View = c.leave.new.seat.me.0 in
    let k = c.args.lineage.now.piece in
    let r = c.place-placed.result in
    let placed = c.place-placed.ensures in
    subst (λ (x : Shelf). IfOk r (λ _. x ≡ after_place k (shelf_of q.tag q.found q.found_sealed)))
    (sym (left-is w y _ c.leave.ensures.left (stays g at)))
    (subst (λ (x : Shelf). IfOk r (λ _. shelf_of w.tag y.seen y.saw ≡ after_place k x))
    (sym (found-is _ w y _ c.leave.ensures.left c.enter.ensures.entered (stays g at)))
    (place-leaves w y k r (inside g at) placed.answer placed.new placed.other))

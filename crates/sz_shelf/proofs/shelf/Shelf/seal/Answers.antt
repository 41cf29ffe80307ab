use Rattle.std.proofs.Common.{sym, ap, ◌∙◌, ◌≡◌}
use Rattle.sz_core.specs.Events.{seal_reply, after_seal}
use Rattle.sz_shelf.specs.declared.rule.View.{View}
use Rattle.sz_shelf.specs.Passes.{Stays}
use Rattle.sz_shelf.specs.Machine.{shelf_of}
use Rattle.sz_shelf.proofs.Turning.{sealed-stays}
use Rattle.sz_shelf.proofs.Telling.{seal-told, seal-leaves, found-is, left-is}
use Rattle.sz_shelf.proofs.shelf.Shelf.seal.Given.{Over}
use Rattle.sz_shelf.proofs.shelf.Shelf.seal.Goals.{After-leave}
use Rattle.sz_shelf.proofs.shelf.Shelf.seal.Goals as goal

-- what the turn did to what the seat knew
stays : (g : Over) (c : After-leave g) → Stays c.enter.new.seat.me.0 c.seal-sealed.new.seat.me.0
stays g c =
    let told = c.seal-sealed.ensures in
    sealed-stays _ _ _ c.seal-sealed.result c.enter.ensures.entered told.answer told.sealed told.missing

-- the shelf that the turn found
found : (g : Over) (c : After-leave g) → (let v : View = c.leave.new.seat.me.0 in shelf_of v.tag v.found v.found_sealed)
    ≡ (let w : View = c.enter.new.seat.me.0 in shelf_of w.tag w.seen w.saw)
found g c = found-is _ _ _ _ c.leave.ensures.left c.enter.ensures.entered (stays g c)

pub returns-clause-told : goal.returns-clause-told
returns-clause-told g c =
    let w : View = c.enter.new.seat.me.0 in
    seal-told w.tag w.seen w.saw c.seal-sealed.result c.seal-sealed.ensures.answer
    ∙ sym (ap seal_reply (found g (goal.at.returns-clause-told g c).After-leave))

pub returns-clause-left : goal.returns-clause-left
returns-clause-left g c =
    let told = c.seal-sealed.ensures in
    let at = (goal.at.returns-clause-left g c).After-leave in
    left-is _ _ _ c.leave.ensures.left (stays g at)
    ∙ seal-leaves _ _ c.seal-sealed.result told.answer told.sealed told.missing ∙ sym (ap after_seal (found g at))

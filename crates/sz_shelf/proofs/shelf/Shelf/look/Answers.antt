-- What the turn added is the tag's image, and so what the machine's ask holds by the shelf that the turn found.
use Rattle.std.proofs.Common.{◌≡◌, ◌<◌, ◌∷◌, [], length, sym, subst, ap, ◌∙◌}
use Rattle.sz_cells.specs.Cells.{has, with_those}
use Rattle.sz_spec.specs.Sides.{near_side}
use Rattle.sz_core.specs.States.{Shelf}
use Rattle.sz_core.specs.Events.{after_look}
use Rattle.sz_shelf.specs.Tags.{Tag}
use Rattle.sz_shelf.specs.Rule.{Own}
use Rattle.sz_shelf.specs.Passes.{Onlooker}
use Rattle.sz_shelf.specs.Machine.{first_step}
use Rattle.sz_shelf.specs.declared.rule.View.{View}
use Rattle.sz_shelf.proofs.Turning.{same-stays, equal-stays}
use Rattle.sz_shelf.proofs.Telling.{found-is}
use Rattle.sz_shelf.proofs.Pairs.{looked-cells}
use Rattle.sz_shelf.proofs.shelf.Shelf.look.Goals as goal

pub returns-clause-cells : goal.returns-clause-cells
returns-clause-cells g c done =
    let w : View = c.enter.new.seat.me.0 in
    let y : View = c.image-look.new.seat.me.0 in
    let told = c.image-look.ensures in
    let from = c.args.from.now in
    let to = c.args.to.now in
    let ask = first_step c.args.dir c.args.input from in
    let entered = c.enter.ensures.entered in
    let stays = equal-stays _ w y entered (ap (λ (m : Own). m.0) told.same) in
    let tag : w.tag ≡ c.args.pass.now.tag =
    ap (λ (x : View). x.tag) entered.after ∙ ap (λ (x : Onlooker). x.tag) c.pass.view_is in
    subst (λ (x : Shelf). c.image-look.new.to ≡ with_those to (has (after_look (x ∷ []) ask).cells))
    (sym (found-is _ w y _ c.leave.ensures.left entered stays))
    (looked-cells w.tag c.args.s w.seen w.saw c.args.dir c.args.input from to c.image-look.new.to c.image-look.result
    (same-stays _ w entered).whole
    (subst (λ (t : Tag). c.args.input < length t.site.ins) (sym tag) c.requires.input)
    c.a_bitmap_is_its_cells.ensures.cells
    (subst (λ (t : Tag). from.extent ≡ near_side c.args.dir t.site c.args.input) (sym tag) c.requires.from)
    told.answer told.done done)

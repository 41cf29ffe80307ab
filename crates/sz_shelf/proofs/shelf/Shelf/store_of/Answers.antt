use Rattle.std.proofs.Common.{sym, ap, subst, ◌∙◌}
use Rattle.sz_shelf.specs.Rule.{Own}
use Rattle.sz_shelf.specs.Passes.{Onlooker, TookTurn}
use Rattle.sz_shelf.proofs.Turning.{turn-of, equal-stays}
use Rattle.sz_shelf.proofs.shelf.Shelf.store_of.Goals as goal

pub returns-clause-turn : goal.returns-clause-turn
returns-clause-turn g c =
    let entered = c.enter.ensures.entered in
    subst (λ (x : Onlooker). TookTurn c.args.pass.now x) (sym c.keep.ensures.rest)
    (turn-of _ _ _ _ _ _ _ _ _ c.pass.view_is (c.leave.ensures.own ∙ c.share-given.ensures.own ∙ c.enter.ensures.own)
    c.leave.ensures.left entered (equal-stays _ _ _ entered (ap (λ (m : Own). m.0) c.share-given.ensures.same)))

-- The array has the shape of the row, and the shelf is that of its regions.
use Rattle.std.proofs.Common.{ℕ, [], ◌∷◌, refl, sym, ap, ◌∙◌, subst}
use Rattle.std.specs.Arc.{arc_value}
use Rattle.sz_frame.specs.Images.{measure_of}
use Rattle.sz_frame.specs.Fits.{Fits}
use Rattle.sz_shelf.specs.Places.{ShelfPlace}
use Rattle.trials_merge.specs.Bench.{labels, strategies}
use Rattle.trials_merge.proofs.tests.bench.Bench.place.Goals as goal

pub piece-requires-clause-inputs : goal.piece-requires-clause-inputs
piece-requires-clause-inputs g c =
    rw (c.deref-2.ensures, c.self.invariant.site, c.in_ok-try_clone.ensures, c.self.invariant.array) refl

pub piece-requires-clause-piece : goal.piece-requires-clause-piece
piece-requires-clause-piece g c = rw (c.deref-2.ensures, c.self.invariant.site) c.requires.piece

pub place-requires-clause-piece : goal.place-requires-clause-piece
place-requires-clause-piece g c =
    let tag = ap (λ (z : ShelfPlace). z.tag) (c.requires.own ∙ sym c.self.view_is) ∙ c.self.invariant.tag in
    rw (tag, c.in_ok-lineage.ensures.piece) c.requires.piece

pub place-requires-clause-fits : goal.place-requires-clause-fits
place-requires-clause-fits g c =
    let tag = ap (λ (z : ShelfPlace). z.tag) (c.requires.own ∙ sym c.self.view_is) ∙ c.self.invariant.tag in
    let made = c.in_ok-lineage.ensures in
    let l = c.in_ok-lineage.lineage in
    let measure = measure_of labels (arc_value c.self.inside.array ∷ []) in
    let fits = rw (c.deref-2.ensures, c.self.invariant.site, c.in_ok-try_clone.ensures) at made.fits in
    rw tag
    (c.needed_parts_can_be_placed.ensures.fitting measure strategies l.piece l
    (subst (λ (k : ℕ). Fits measure strategies k l) (sym made.piece) fits))

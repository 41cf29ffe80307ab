-- A piece that was made fits, so the parts that the list needs do. It is seen, whatever the place told; and the tally
-- rose by what was looked at.
use Rattle.std.proofs.Common.{◌≡◌, ◌<◌, ℕ, true, All, map, ap, ◌∙◌, subst, sym, arith, Global}
use Rattle.std.specs.Prelude.{Ok}
use Rattle.std.specs.Arc.{arc_value}
use Rattle.std.specs.declared.sync.Arc.{Arc}
use Rattle.sz_spec.specs.Values.{Grid}
use Rattle.sz_spec.specs.Pieces.{pieces_of}
use Rattle.sz_frame.specs.Images.{measure_of}
use Rattle.sz_frame.specs.Parts.{Parts}
use Rattle.sz_shelf.specs.Tags.{Tag, tag_pieces}
use Rattle.sz_store.specs.Needed.{FitsAsNeeded}
use Rattle.sz_shelf.proofs.Fitting.{fits-needed}
use Rattle.sz_shelf.specs.Apart.{HasImages}
use Rattle.sz_shelf.proofs.Apart.{written-images}
use Rattle.sz_shelf.specs.Places.{ShelfPlace}
use Rattle.sz_shelf.specs.Contents.{is_in}
use Rattle.sz_pool.proofs.Turns.{grows-turn, seen-placed, told-by}
use Rattle.sz_pool.proofs.maker.Maker.place.Goals as goal

pub place_as-requires-clause-fits : goal.place_as-requires-clause-fits
place_as-requires-clause-fits g c =
    let lineage = c.in_ok-lineage.lineage in
    let piece : lineage.piece ≡ c.args.k = c.in_ok-lineage.ensures.piece in
    let tag = ap (λ (z : ShelfPlace). z.tag) c.requires.own ∙ c.args.self.now.tag in
    let made = c.args.self.now in
    let at = made.at.now in
    let inputs = map (λ (a : Arc Grid Global). arc_value a) made.inputs.now in
    let fits = fits-needed (measure_of at inputs) made.list.now c.args.k lineage c.in_ok-lineage.ensures.fits in
    subst (λ (t : Tag). FitsAsNeeded (measure_of t.site t.inputs) t.list lineage.piece lineage) (sym tag)
    (subst (λ (j : ℕ). FitsAsNeeded (measure_of at inputs) made.list.now j lineage) (sym piece) fits)

-- what was written of a piece has the images of output cells
pub place_as-requires-clause-images : goal.place_as-requires-clause-images
place_as-requires-clause-images g c told =
    let lineage = c.in_ok-lineage.lineage in
    let tag = ap (λ (z : ShelfPlace). z.tag) c.requires.own ∙ c.args.self.now.tag in
    let made = c.args.self.now in
    let at = made.at.now in
    let inputs = map (λ (a : Arc Grid Global). arc_value a) made.inputs.now in
    subst (λ (t : Tag). All (HasImages t.site t.inputs) lineage.regions) (sym tag)
    (subst (λ (p : Parts). All (HasImages at inputs) p.regions) (sym c.in_ok-lineage.ensures.written)
    (written-images at inputs made.list.now c.args.k))

pub returns : goal.returns
returns g c =
    let p = c.args.pass.now in
    let q = c.place_as.new.pass in
    let lineage = c.in_ok-lineage.lineage in
    let done = c.in_ok-place_as.ensures in
    let piece : lineage.piece ≡ c.args.k = c.in_ok-lineage.ensures.piece in
    let n : tag_pieces p.tag ≡ pieces_of c.args.self.now.at.now.out =
    ap (λ (z : ShelfPlace). tag_pieces z.tag) c.requires.own ∙ ap tag_pieces c.args.self.now.tag in
    let inside : lineage.piece < tag_pieces p.tag = omega (arith, piece, n, c.requires.piece) in record {
      grows = grows-turn p q done.turn done.kept;
      turns = done.turn.turns;
      seen =
          subst (λ (j : ℕ). is_in q.seen j ≡ true) piece
          (seen-placed (tag_pieces p.tag) lineage.piece c.in_ok-place_as.field-0 q.found q.seen q.found_sealed q.saw
          done.answer (λ e. done.new (ap Ok e)) (λ other. done.other (λ e. other (ap told-by e))) done.saw
          done.turn.whole inside);
      ticks = omega (arith, c.add.ensures, c.in_ok-lineage.ensures.ticks, c.new-looked.ensures);
    }

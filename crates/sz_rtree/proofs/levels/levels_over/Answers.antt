-- The boxes of a level are round those of the level below, and so round the rectangles.
use Rattle.std.proofs.Common.{◌≡◌, ℕ, List, length, arith, ap, subst}
use Rattle.std.proofs.lemmas.List.Elements.{All-push}
use Rattle.sz_cells.specs.declared.Bounds.{Bounds}
use Rattle.sz_rtree.specs.Levels.{Covers, HasBoxes}
use Rattle.sz_rtree.proofs.Boxes.{HasBoxes-over}
use Rattle.sz_rtree.proofs.levels.levels_over.Goals as goal

pub loop-level-preserved : goal.loop-level-preserved
loop-level-preserved c =
    let rs = c.args.rectangles.now in
    let level = c.loop-level.level in
    let inv = c.loop-level.invariant in
    let above = c.in_ok-above.above in
    let own = c.in_ok-above.ensures in
    let below : c.deref.result.now ≡ level.boxes.items = c.deref.ensures.value in
    let over : HasBoxes level.boxes.items 4 above.boxes.items =
    subst (λ (s : ℕ). HasBoxes level.boxes.items s above.boxes.items) own.span
    (subst (λ (bs : List Bounds). HasBoxes bs above.span above.boxes.items) below own.covers) in
    record {
      few = omega (arith, own.few, ap length below, inv.few);
      covers = HasBoxes-over rs level.boxes.items above.boxes.items level.span (omega (arith, c.loop-level-test.true))
          inv.covers over;
      below =
          rw c.in_ok-push.ensures.items
          (All-push (Covers rs) c.loop-level.levels.items level inv.below inv.covers);
    }

pub returns : goal.returns
returns c =
    rw c.in_ok-push-2.ensures.items
    (All-push (Covers c.args.rectangles.now) c.loop-level.levels.items c.loop-level.level c.loop-level.invariant.below
    c.loop-level.invariant.covers)

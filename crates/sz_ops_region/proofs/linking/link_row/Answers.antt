-- The word of this cell is that to the left of the next one.
use Rattle.std.proofs.Common.{◌≡◌, ◌+◌, ◌*◌, ap, subst, sym, ◌∙◌, arith, true, to_z, of_z, w64}
use Rattle.std.specs.Prelude.{ℤ}
use Rattle.std.proofs.lemmas.Int.{to_z-of_z}
use Rattle.std.proofs.Common.{lt-ltb}
use Rattle.std.proofs.lemmas.Bool.{and_from}
use Rattle.sz_cells.specs.Extent.{Extent, holds}
use Rattle.sz_ops_region.specs.Linking.{AreLinked}
use Rattle.sz_ops_region.proofs.Linked.{left-first, left-next}
use Rattle.sz_ops_region.proofs.linking.link_row.Goals as goal

pub loop-col-init : goal.loop-col-init
loop-col-init c =
    let g = c.args.array.now in
    let e = g.extent in
    let first : c.args.row * e.cols ≡ c.args.row * e.cols + 0 = omega arith in
    let same : c.args.t ≡ to_z w64 (of_z w64 c.args.t) = sym (to_z-of_z w64 c.args.t c.ranges.t) in
    record {
      end = ap (λ (f : Extent). f.cols) (c.shape.view_is ∙ c.shape-shape.ensures);
      linked = subst (λ (z : ℤ). AreLinked z g c.args.words.now (c.args.row * e.cols + 0)) same
          (subst (AreLinked c.args.t g c.args.words.now) first c.requires.linked);
      left = left-first c.args.words.now e c.args.row;
    }

pub loop-col-preserved : goal.loop-col-preserved
loop-col-preserved c =
    let g = c.args.array.now in
    let e = g.extent in
    let col = c.loop-col.col in
    let inv = c.loop-col.invariant in
    let held : holds e (record { row = c.args.row; col = col }) ≡ true =
    and_from _ _ (lt-ltb c.args.row e.rows c.requires.row)
    (lt-ltb col e.cols (omega (arith, inv.end, c.loop-col-test.true))) in
    let next : c.args.row * e.cols + col + 1 ≡ c.args.row * e.cols + (col + 1) = omega arith in
    record {
      end = inv.end;
      linked = subst (AreLinked (to_z w64 (of_z w64 c.args.t)) g c.look-left.new.words) next c.look-left.ensures.linked;
      left = left-next c.look-left.new.words e c.args.row col c.look-left.result held c.look-left.ensures.word;
    }

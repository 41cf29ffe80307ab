-- A tree that has got room has the rectangles that it had.
use Rattle.std.proofs.Common.{◌<◌, ◌≤◌, ◌+◌, ◌^◌, length, ap, ◌∙◌, arith}
use Rattle.std.proofs.Math.Seq.{map-set_same}
use Rattle.std.proofs.lemmas.List.Elements.{AllWithin-more_set}
use Rattle.sz_rtree.specs.Rectangles.{Rectangles}
use Rattle.sz_rtree.proofs.Elements.{All-carried}
use Rattle.sz_full_many.proofs.bounds.reserve_trees.Goals as goal

pub returns-in_err-reserve-clause-kept : goal.returns-in_err-reserve-clause-kept
returns-in_err-reserve-clause-kept c =
    map-set_same (λ (t : Rectangles). t.rectangles) c.loop-tree.trees c.loop-tree.tree-index c.reserve.new.self
    c.tree-item.result (ap (λ (t : Rectangles). t.rectangles) c.in_err-reserve.ensures.err)
    ∙ c.loop-tree.invariant.kept

pub loop-tree-preserved : goal.loop-tree-preserved
loop-tree-preserved c =
    let trees = c.loop-tree.trees in
    let i = c.loop-tree.tree-index in
    let new = c.reserve.new.self in
    let inside : i < length trees = omega arith in
    let same = ap (λ (t : Rectangles). t.rectangles) c.in_ok-reserve.ensures.ok in
    let long = ap (λ (t : Rectangles). length t.rectangles) c.in_ok-reserve.ensures.ok in
    let room = ap (λ (t : Rectangles). t.spare) c.in_ok-reserve.ensures.ok in
    record {
      few =
          All-carried (λ (t : Rectangles). length t.rectangles + c.args.more < 2 ^ 32) trees i c.tree-item.result new
          inside (λ before. omega (arith, long, before)) c.loop-tree.invariant.few;
      kept =
          map-set_same (λ (t : Rectangles). t.rectangles) trees i new c.tree-item.result same
          ∙ c.loop-tree.invariant.kept;
      done =
          AllWithin-more_set trees i new inside (λ (t : Rectangles). c.args.more ≤ t.spare)
          c.loop-tree.invariant.done (omega (arith, room));
    }

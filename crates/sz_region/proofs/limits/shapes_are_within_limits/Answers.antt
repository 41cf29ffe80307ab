-- The first is, and one after the other.
use Rattle.std.proofs.Common.{◌≡◌, true, List, get_or, take, subst, ap, ◌∙◌, sym, arith}
use Rattle.std.specs.List.{All}
use Rattle.std.proofs.lemmas.List.{take_all}
use Rattle.std.proofs.lemmas.List.Elements.{All-more, All-cons}
use Rattle.sz_cells.specs.Extent.{Extent, is_extent}
use Rattle.sz_region.proofs.limits.shapes_are_within_limits.Goals as goal

pub loop-shape-preserved : goal.loop-shape-preserved
loop-shape-preserved c =
    let shape = c.shape-item.result in
    All-more (λ (e : Extent). is_extent e ≡ true) c.args.ins.now c.loop-shape.shape-index shape (omega arith)
    c.loop-shape.invariant
    (subst (λ (e : Extent). is_extent e ≡ true) c.shape-item.is c.a_shape_is_within_limits-in-loop-shape.ensures)

pub returns : goal.returns
returns c =
    let all = subst (All (λ (e : Extent). is_extent e ≡ true)) (take_all c.loop-shape.shape-index c.args.ins.now
    (omega arith))
    c.loop-shape.invariant in
    All-cons (λ (e : Extent). is_extent e ≡ true) c.args.out.now c.args.ins.now c.a_shape_is_within_limits.ensures all

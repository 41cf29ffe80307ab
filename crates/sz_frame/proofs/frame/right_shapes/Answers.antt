-- The shapes before the last one, and the last, are all.
use Rattle.std.proofs.Common.{◌≡◌, true, List, get_or, subst, arith}
use Rattle.std.proofs.lemmas.List.Elements.{All-from_get_or}
use Rattle.sz_cells.specs.Extent.{Extent, is_extent}
use Rattle.sz_spec.specs.Values.{no_extent}
use Rattle.sz_frame.proofs.frame.right_shapes.Goals as goal

pub returns-clause-right : goal.returns-clause-right
returns-clause-right c =
    let all = c.loop-shape.invariant in
    All-from_get_or (λ (e : Extent). is_extent e ≡ true) c.args.at.now.ins no_extent
    (λ k inside. subst (λ (es : List Extent). is_extent (get_or es k no_extent) ≡ true) all.0
    (all.2 k (omega (arith, inside, all.1))))

-- The tests of the body are the limits of a shape.
use Rattle.sz_cells.proofs.Shapes.{within-sides, layered-is_extent}
use Rattle.sz_cells.proofs.Shape.make_layers.Goals as goal

pub invariant_of-result : goal.invariant_of-result
invariant_of-result c =
    let within =
    within-sides c.from.result c.from-2.result c.from-then-rows-le-MOST.result (rw c.from.ensures c.if-layers-gt0.true)
    (rw c.from.ensures c.if-layers-le-MOST_LAYERS.true)
    c.if-rows-gt0.true (rw c.from-then-rows-le-MOST.ensures c.if-cols-gt0.true) c.if-rows-from-le-MOST.true in
    rw (← c.from.ensures, ← c.from-then-rows-le-MOST.ensures) (layered-is_extent c.from.result c.from-2.result
    c.from-then-rows-le-MOST.result within)

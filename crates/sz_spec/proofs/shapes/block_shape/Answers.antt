-- The blocks laid over each layer are within the limits of a shape.
use Rattle.std.proofs.Common.{◌≡◌, true, ap}
use Rattle.sz_cells.specs.Extent.{Extent, is_extent}
use Rattle.sz_spec.proofs.CodeShapes.{sides-blocked}
use Rattle.sz_spec.proofs.shapes.block_shape.Goals as goal

pub each_layer-requires : goal.each_layer-requires
each_layer-requires c =
    let inside : is_extent c.args.of ≡ true = rw (← c.of.view_is) c.of.invariant in
    let cols = ap (λ (e : Extent). e.cols) c.of.view_is in
    rw (c.blocks_over.ensures, c.height.ensures.value, c.blocks_over-2.ensures, cols)
    (sides-blocked c.args.of c.args.h c.args.w inside c.requires.rows c.requires.cols)

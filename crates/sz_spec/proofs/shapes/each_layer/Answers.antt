-- The sides are within the limits of a shape, so they make one.
use Rattle.std.proofs.Common.{ap}
use Rattle.sz_cells.specs.Extent.{Extent}
use Rattle.sz_cells.proofs.Shapes.{layered-is_extent}
use Rattle.sz_spec.proofs.shapes.each_layer.Goals as goal

pub invariant_of-result : goal.invariant_of-result
invariant_of-result c =
    let layers = ap (λ (e : Extent). e.layers) c.of.view_is in
    layered-is_extent c.of.inside.layers c.args.height c.args.cols (rw layers c.requires)

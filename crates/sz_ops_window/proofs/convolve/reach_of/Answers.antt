-- The sides of a shape are small.
use Rattle.std.proofs.Common.{◌≡◌, true, ap, subst, arith}
use Rattle.sz_cells.specs.Extent.{Extent}
use Rattle.sz_spec.specs.Weights.{Weights, is_kernel}
use Rattle.sz_frame.proofs.Places.{are-small}
use Rattle.sz_ops_window.proofs.Sums.{kernel-sides}
use Rattle.sz_ops_window.proofs.convolve.reach_of.Goals as goal

pub overflow_add-shape-inside : goal.overflow_add-shape-inside
overflow_add-shape-inside c =
    let small = are-small c.args.shape c.a_shape_is_within_limits.ensures in
    let cols = ap (λ (e : Extent). e.cols) c.shape.view_is in
    let kernel : is_kernel c.args.mask.now ≡ true =
    subst (λ (v : Weights). is_kernel v ≡ true) c.mask.view_is c.mask.invariant in
    let sides = kernel-sides c.args.mask.now kernel in
    let wide = ap (λ (v : Weights). v.cols) c.mask.view_is in
    record { fits = omega (arith, small.cols, cols, sides.1, wide) }

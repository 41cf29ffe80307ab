-- The sides are those of the square, as far as the layer goes.
use Rattle.std.proofs.Common.{ap}
use Rattle.sz_cells.specs.Extent.{Extent}
use Rattle.sz_ops_window.proofs.Least.{square-is_window}
use Rattle.sz_ops_window.proofs.clean.square_round.Goals as goal

pub returns-clause-cells : goal.returns-clause-cells
returns-clause-cells c = λ x held.
    let cols = ap (λ (e : Extent). e.cols) c.shape.view_is in
    rw (c.max.ensures, c.saturating_sub.ensures, c.saturating_sub-2.ensures, c.min.ensures, c.min-2.ensures, cols)
    (rw (c.layer_of.ensures.value, c.height.ensures.value, c.height-2.ensures.value)
    (square-is_window c.args.shape c.args.cell x c.a_shape_is_within_limits.ensures c.requires held))

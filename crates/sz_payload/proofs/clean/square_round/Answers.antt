-- The sides are those of the square, as far as the layer goes.
use Rattle.std.proofs.Common.{◌≡◌, true, ap}
use Rattle.sz_cells.specs.Extent.{Extent, is_extent}
use Rattle.sz_spec.proofs.CodeSquare.{square-rectangle}
use Rattle.sz_payload.proofs.clean.square_round.Goals as goal

pub returns-clause-cells : goal.returns-clause-cells
returns-clause-cells c = λ x held.
    let inside : is_extent c.args.shape ≡ true = rw (← c.shape.view_is) c.shape.invariant in
    let cols = ap (λ (e : Extent). e.cols) c.shape.view_is in
    rw (c.max.ensures, c.saturating_sub.ensures, c.saturating_sub-2.ensures, c.min.ensures, c.min-2.ensures, cols)
    (rw (c.layer_of.ensures.value, c.height.ensures.value, c.height-2.ensures.value)
    (square-rectangle c.args.shape c.args.cell x inside c.requires held))

-- The shape of the squares is that of the set.
use Rattle.std.proofs.Common.{ap, ◌∙◌}
use Rattle.sz_cells.specs.Extent.{Extent}
use Rattle.sz_cells.specs.Cells.{any_cell, with_those}
use Rattle.sz_spec.specs.Operators.Clean.{is_in_square}
use Rattle.sz_refresh.proofs.near.add_squares.Goals as goal

pub returns : goal.returns
returns c =
    c.add_each.ensures
    ∙ ap (λ (e : Extent). with_those c.args.to.now (λ o. any_cell (λ x. is_in_square e x o) c.args.from.now))
    c.shape.ensures.value

-- The rows of equal layers, divided by the layers, are the height.
use Rattle.sz_cells.proofs.Shapes.{sides-within, height-layered, layered-is_extent}
use Rattle.sz_cells.proofs.laws.layers_make_shapes.Goals as goal

pub returns-clause-layers : goal.returns-clause-layers
returns-clause-layers c =
    λ layers height cols within. (
      layered-is_extent layers height cols within,
      height-layered layers height cols (sides-within layers height cols
          within).0,
    )

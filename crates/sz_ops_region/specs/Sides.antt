-- The four sides of a cell, and the rows of a layer.
use Rattle.std.specs.Prelude.{◌≡◌, ℕ, ◌+◌, ◌*◌, ◌<◌, ◌==◌, Bool, ◌&&◌}
use Rattle.sz_cells.specs.declared.Cell.{Cell}
use Rattle.sz_cells.specs.Extent.{Extent, height_of}
use Rattle.sz_ops_region.specs.declared.sides.Band.{Band}
use Rattle.sz_ops_region.specs.declared.sides.Side.{Side}
use Rattle.sz_ops_region.specs.declared.sides.Side.TheVariants.{Above, Below, Left, Right}

-- c is next to a cell on a side, whatever its layer
abbrev pub is_on : Side → Cell → Cell → Bool
is_on Above cell c = (cell.col == c.col) && (c.row + 1 == cell.row)
is_on Below cell c = (cell.col == c.col) && (cell.row + 1 == c.row)
is_on Left cell c = (cell.row == c.row) && (c.col + 1 == cell.col)
is_on Right cell c = (cell.row == c.row) && (cell.col + 1 == c.col)

-- the rows from the band's top to before its end are those of a layer, and there are some
pub record IsBandOf (e : Extent) (band : Band) (layer : ℕ) : Type 0 where
  pub top : band.top ≡ layer * height_of e
  pub end : band.end ≡ layer * height_of e + height_of e
  pub some : 0 < height_of e

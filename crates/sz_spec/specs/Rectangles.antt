-- Rectangles of cells.
use Rattle.std.specs.Prelude.{ℕ, ◌==◌, Bool, ◌&&◌, nat_le}
use Rattle.sz_cells.specs.declared.Bounds.{Bounds}
use Rattle.sz_cells.specs.declared.Cell.{Cell}

-- a cell is of this row, and from one column to another
abbrev pub is_in_row : ℕ → ℕ → ℕ → Cell → Bool
is_in_row row left right x = (x.row == row) && nat_le left x.col && nat_le x.col right

-- a cell is in a rectangle, both corners in it
abbrev pub is_in_rectangle : Bounds → Cell → Bool
is_in_rectangle b x =
    nat_le b.top x.row && nat_le x.row b.bottom && nat_le b.left x.col && nat_le x.col b.right

-- Shapes of arrays: how many layers, rows and columns, which cells they have, and how cells are
-- numbered.
use Rattle.std.specs.Prelude.{ℕ, ◌+◌, ◌*◌, ◌/◌, ◌%◌, Bool, ◌&&◌, ◌==◌, nat_lt, nat_le}
use Rattle.sz_cells.specs.declared.Cell.{Cell}

-- a shape: layers of the same height, the rows of all layers together, and the columns of each row
pub record Extent : Type 0 where
  pub layers : ℕ
  pub rows : ℕ
  pub cols : ℕ

-- how many rows a layer has
abbrev pub height_of : Extent → ℕ
height_of e = e.rows / e.layers

-- how many cells a shape has
abbrev pub size_of : Extent → ℕ
size_of e = e.rows * e.cols

-- the shape of so many layers, each of this height
abbrev pub layered : ℕ → ℕ → ℕ → Extent
layered layers height cols = record { layers = layers; rows = layers * height; cols = cols }

-- the shape of one layer
abbrev pub flat : ℕ → ℕ → Extent
flat rows cols = record { layers = 1; rows = rows; cols = cols }

-- no side is 0, and there are at most 1,048,576 cells
abbrev pub is_shape : ℕ → ℕ → Bool
is_shape rows cols = nat_lt 0 rows && nat_lt 0 cols && nat_le (rows * cols) 1048576

-- 1 to 16 layers, no side is 0, and there are at most 1,048,576 cells
abbrev pub is_layered : ℕ → ℕ → ℕ → Bool
is_layered layers height cols = nat_lt 0 layers && nat_le layers 16 && is_shape (layers * height)
    cols

-- what a shape is: whole layers within these limits
abbrev pub is_extent : Extent → Bool
is_extent e = is_layered e.layers (height_of e) e.cols && (e.rows == e.layers * height_of e)

-- the cell is one of the shape
abbrev pub holds : Extent → Cell → Bool
holds e c = nat_lt c.row e.rows && nat_lt c.col e.cols

-- the row-major index of a cell
abbrev pub index_of : Extent → Cell → ℕ
index_of e c = c.row * e.cols + c.col

-- the cell of a row-major index
abbrev pub cell_of : Extent → ℕ → Cell
cell_of e k = record { row = k / e.cols; col = k % e.cols }

-- the layer of a cell, and the cell's row in its layer, both from 0
abbrev pub layer_of : Extent → Cell → ℕ
layer_of e c = c.row / height_of e

abbrev pub row_in : Extent → Cell → ℕ
row_in e c = c.row % height_of e

-- the cell of a layer, a row in it and a column, where the shape has it
abbrev pub is_place : Extent → ℕ → ℕ → ℕ → Bool
is_place e layer row col = nat_lt layer e.layers && nat_lt row (height_of e) && nat_lt col e.cols

abbrev pub cell_in : Extent → ℕ → ℕ → ℕ → Cell
cell_in e layer row col = record { row = layer * height_of e + row; col = col }

-- Pieces: the cells of an output array, 64 by 64 in row-major order; the last piece may have fewer.
use Rattle.std.specs.Prelude.{ℕ, ◌+◌, ◌/◌, ◌==◌, Bool, ◌&&◌}
use Rattle.sz_cells.specs.declared.Cell.{Cell}
use Rattle.sz_cells.specs.Extent.{Extent, size_of, holds, index_of}

-- how many pieces an array of this shape has
abbrev pub pieces_of : Extent → ℕ
pieces_of e = (size_of e + 63) / 64

-- the cell is one of piece k
abbrev pub is_in_piece : Extent → ℕ → Cell → Bool
is_in_piece e k c = holds e c && (index_of e c / 64 == k)

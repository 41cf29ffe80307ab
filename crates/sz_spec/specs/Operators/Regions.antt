-- Connected regions of high cells.
use Rattle.std.specs.Prelude.{ℕ, zero, suc, ◌+◌, ℤ, pos, ◌==◌, Bool, ◌&&◌, ◌||◌, List, []}
use Rattle.std.specs.Prelude.{◌∷◌, Option, Some}
use Rattle.sz_cells.specs.declared.Cell.{Cell}
use Rattle.sz_cells.specs.Extent.{Extent, size_of, layer_of}
use Rattle.sz_cells.specs.Cells.{Cells, is_same, cells_where, any_cell, has}
use Rattle.sz_spec.specs.Values.{Grid}
use Rattle.sz_spec.specs.Operators.Clean.{is_hot}

-- a cell is high where it is not empty and at least t
abbrev pub is_high : ℤ → Grid → Cell → Bool
is_high t g c = is_hot t g c

-- two cells are one row or one column apart, in one layer
abbrev pub are_neighbours : Extent → Cell → Cell → Bool
are_neighbours e a b = (layer_of e a == layer_of e b)
    && (((a.row == b.row) && ((a.col + 1 == b.col) || (b.col + 1 == a.col)))
    || ((a.col == b.col) && ((a.row + 1 == b.row) || (b.row + 1 == a.row))))

-- the high cells that are in a set or have a neighbour in it
abbrev pub spread : ℤ → Grid → Cells → Cells
spread t g set = cells_where g.extent
    (λ c. is_high t g c && (has set c || any_cell (are_neighbours g.extent c) set))

-- what n spreads make of a set
abbrev pub spreads : ℕ → ℤ → Grid → Cells → Cells
spreads zero t g set = set
spreads (suc n) t g set = spread t g (spreads n t g set)

-- the component of a cell: what is reached from it in as many spreads as there are cells, after
-- which a further one adds nothing; that of a cell that is not high is empty
abbrev pub component_of : ℤ → Grid → Cell → Cells
component_of t g c =
    spreads (size_of g.extent) t g (cells_where g.extent (λ x. is_same x c && is_high t g x))

-- x is reached from o through high cells, each a neighbour of the one before
abbrev pub is_connected : ℤ → Grid → Cell → Cell → Bool
is_connected t g o x = has (component_of t g o) x

-- 1 plus the least index of the component of a high cell, 0 on any other cell
abbrev pub label_of : List ℕ → ℤ
label_of [] = pos 0
label_of (k ∷ ks) = pos (1 + k)

abbrev pub labelled_at : ℤ → Grid → Cell → Option ℤ
labelled_at t g o = Some (label_of (component_of t g o).indexes)

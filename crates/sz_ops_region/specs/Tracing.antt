-- Which components a trace has added already.
use Rattle.std.specs.Prelude.{◌≡◌, ℕ, ℤ, true, List, [], ◌∷◌}
use Rattle.sz_cells.specs.declared.Cell.{Cell}
use Rattle.sz_cells.specs.Extent.{holds, cell_of}
use Rattle.sz_cells.specs.Cells.{Cells, has}
use Rattle.sz_spec.specs.Values.{Grid}
use Rattle.sz_spec.specs.Operators.Regions.{is_high, component_of, is_connected}

-- the least of rising indexes, 0 where there is none
abbrev pub first_index : List ℕ → ℕ
first_index [] = 0
first_index (k ∷ ks) = k

-- the first cell of the component of a cell
abbrev pub first_of : ℤ → Grid → Cell → Cell
first_of t g o = cell_of g.extent (first_index (component_of t g o).indexes)

-- where the first cell of a component is marked, each cell of the component is in the set
abbrev pub AreMarked : ℤ → Grid → Cells → Cells → Type 0
AreMarked t g marks set = (o x : Cell) → holds g.extent o ≡ true → is_high t g o ≡ true
    → has marks (first_of t g o) ≡ true → is_connected t g o x ≡ true → has set x ≡ true

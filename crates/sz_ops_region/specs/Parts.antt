-- The component of a cell, as it is kept.
use Rattle.std.specs.Prelude.{◌≡◌, ℕ, ◌<◌, [], ◌∷◌, length}
use Rattle.sz_cells.specs.Cells.{Cells}
use Rattle.sz_ops_region.specs.declared.components.Part.{Part}
use Rattle.sz_ops_region.specs.declared.components.Part.TheVariants.{Alone, Shared}

-- a part of the cell of an index is that of these cells, of which there is one at least
abbrev pub IsPartAt : ℕ → Part → Cells → Type 0
IsPartAt index Alone cells = cells.indexes ≡ index ∷ []
IsPartAt index (Shared component) cells = (component.now ≡ cells) × (0 < length cells.indexes)

-- One cell or none, and where exactly it passes a test.
use Rattle.std.specs.Prelude.{◌≡◌, Bool, true, false, Option, Some, None}
use Rattle.sz_cells.specs.declared.Cell.{Cell}
use Rattle.sz_cells.specs.Extent.{Extent, holds}
use Rattle.sz_cells.specs.Cells.{is_same}

-- the cell is there, and it is x
abbrev pub is_cell : Option Cell → Cell → Bool
is_cell None x = false
is_cell (Some c) x = is_same c x

-- of the cells of a shape, exactly the one that is there passes a test
abbrev pub IsOnly : Extent → (Cell → Bool) → Option Cell → Type 0
IsOnly e test cell = (x : Cell) → holds e x ≡ true → test x ≡ is_cell cell x

-- The two sides of a step of a query, and the image of a set of cells from the one on the other.
use Rattle.std.specs.Prelude.{ℕ, List, Bool}
use Rattle.sz_cells.specs.declared.Cell.{Cell}
use Rattle.sz_cells.specs.Extent.{Extent}
use Rattle.sz_cells.specs.Cells.{Cells}
use Rattle.sz_spec.specs.declared.modes.Dir.{Dir}
use Rattle.sz_spec.specs.declared.modes.Dir.TheVariants.{Back, Forward}
use Rattle.sz_spec.specs.Values.{extent_at}
use Rattle.sz_spec.specs.Shapes.{Site}
use Rattle.sz_spec.specs.Lineage.{back, forward}

-- the shape from which a step over input i starts, and the shape to which it leads; `out` is the
-- shape of the node's output, and `ins` are those of its inputs
abbrev pub extent_before : Dir → Extent → List Extent → ℕ → Extent
extent_before Back out ins i = out
extent_before Forward out ins i = extent_at ins i

abbrev pub extent_after : Dir → Extent → List Extent → ℕ → Extent
extent_after Back out ins i = extent_at ins i
extent_after Forward out ins i = out

-- the image of a set under a relation of output cells and cells of input i
abbrev pub image_between : Dir → Extent → List Extent → ℕ → (Cell → Cell → Bool) → Cells → Cells
image_between Back out ins i relation from = back relation (extent_at ins i) from
image_between Forward out ins i relation from = forward relation out from

-- the same of an operator at its shapes
abbrev pub near_side : Dir → Site → ℕ → Extent
near_side dir s i = extent_before dir s.out s.ins i

abbrev pub far_side : Dir → Site → ℕ → Extent
far_side dir s i = extent_after dir s.out s.ins i

abbrev pub image_in : Dir → Site → ℕ → (Cell → Cell → Bool) → Cells → Cells
image_in dir s i relation from = image_between dir s.out s.ins i relation from

-- What is prepared for the operator, in either way.
use Rattle.std.specs.Prelude.{List}
use Rattle.sz_cells.specs.Cells.{Cells}
use Rattle.sz_ops_region.specs.declared.aid.Kept.{Kept}
use Rattle.sz_ops_region.specs.declared.aid.Kept.TheVariants.{Labels, Components}

-- the component of each cell
abbrev pub sets_in : Kept → List Cells
sets_in (Labels labels) = labels
sets_in (Components components) = components

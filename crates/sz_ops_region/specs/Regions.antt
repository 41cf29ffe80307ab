-- The operator of connected regions, and what is prepared for it.
use Rattle.std.specs.Prelude.{ℤ, List, [], map, Bool, true, false}
use Rattle.std.specs.List.{range_with_len}
use Rattle.sz_cells.specs.Extent.{size_of, cell_of}
use Rattle.sz_cells.specs.Cells.{Cells}
use Rattle.sz_spec.specs.declared.op.Op.{Op}
use Rattle.sz_spec.specs.declared.op.Op.TheVariants.{Regions}
use Rattle.sz_spec.specs.Values.{Grid, input_at}
use Rattle.sz_spec.specs.Operators.Regions.{component_of}

-- the operator labels connected regions
abbrev pub is_regions : Op → Bool
is_regions (Regions t) = true
is_regions _ = false

-- the component of each cell, in row-major order: that of a cell that is not high is empty
abbrev pub components_of : ℤ → Grid → List Cells
components_of t g =
    map (λ k. component_of t g (cell_of g.extent k)) (range_with_len 0 (size_of g.extent))

-- what is prepared for the operator over its inputs: the component of each cell
abbrev pub aid_of : Op → List Grid → List Cells
aid_of (Regions t) inputs = components_of t (input_at inputs 0)
aid_of _ inputs = []

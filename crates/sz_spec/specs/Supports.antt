-- What fixes a value: the cells of the inputs that support an output cell. Whatever the other cells
-- hold, the cell's value is the same.
use Rattle.std.specs.Prelude.{ℕ, ℤ, List, Bool, ◌&&◌, ◌||◌, ◌==◌, if◌then◌else◌}
use Rattle.sz_cells.specs.declared.Cell.{Cell}
use Rattle.sz_cells.specs.Cells.{is_same, any_cell}
use Rattle.sz_spec.specs.declared.op.Op.{Op}
use Rattle.sz_spec.specs.declared.op.Op.TheVariants.{Regions}
use Rattle.sz_spec.specs.Values.{Grid, input_at}
use Rattle.sz_spec.specs.Lineage.{related}
use Rattle.sz_spec.specs.Operators.Regions.{is_high, are_neighbours, component_of}

-- x is of the component of a high cell o, or a neighbour of one of its cells: what is high there
-- makes the component, and what is not bounds it
abbrev pub is_of_or_beside : ℤ → Grid → Cell → Cell → Bool
is_of_or_beside t g o x =
    any_cell (λ c. is_same c x || are_neighbours g.extent c x) (component_of t g o)

-- cell x of input i is among the cells that fix the value of output cell o: those to which o is
-- related, and for a high cell of regions the neighbours of its component too
abbrev pub supports : Op → List Grid → ℕ → Cell → Cell → Bool
supports (Regions t) inputs i o x = let g = input_at inputs 0 in
    (i == 0) && (if is_high t g o then is_of_or_beside t g o x else is_same x o)
supports op inputs i o x = related op inputs i o x

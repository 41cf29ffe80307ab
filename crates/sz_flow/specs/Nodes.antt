-- One node over the base arrays and the outputs so far.
use Rattle.std.specs.Prelude.{◌≡◌, List, map, Ok}
use Rattle.sz_cells.specs.Extent.{Extent}
use Rattle.sz_spec.specs.declared.flow.Node.{Node}
use Rattle.sz_spec.specs.Values.{Grid, extents_of}
use Rattle.sz_spec.specs.Shapes.{shape_of}
use Rattle.sz_spec.specs.Flows.{array_of}

-- the arrays that a node takes
abbrev pub inputs_among : List Grid → List Grid → Node → List Grid
inputs_among base outputs x = map (array_of base outputs) x.from

-- they keep the shape rule of its operator
abbrev pub NodeFits : List Grid → List Grid → Node → Type 0
NodeFits base outputs x =
    (e : Extent) × (shape_of x.op (extents_of (inputs_among base outputs x)) ≡ Ok e)

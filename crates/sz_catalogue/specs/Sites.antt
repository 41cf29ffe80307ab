-- The operators of a flow's nodes, at the shapes between which they work.
use Rattle.std.specs.Prelude.{◌≡◌, List, map, length, true, Ok, All}
use Rattle.sz_cells.specs.Extent.{Extent}
use Rattle.sz_spec.specs.declared.flow.Node.{Node}
use Rattle.sz_spec.specs.Flows.{is_source}
use Rattle.sz_spec.specs.FlowShapes.{node_inputs}
use Rattle.sz_spec.specs.Shapes as shapes
use Rattle.sz_spec.specs.Shapes.{Site, output_extent, shape_of}
use Rattle.sz_catalogue.specs.Holdings.{Version, shapes_of}
use Rattle.sz_catalogue.specs.Starts.{outputs_of}

-- the operator of a node, between shapes of base arrays and outputs
abbrev pub site_over : List Extent → List Extent → Node → Site
site_over base outs x =
    let ins = node_inputs base outs x in
    record { op = x.op; ins = ins; out = output_extent x.op ins }

-- a node that can stand there: its sources are there, and its shape rule holds of them
pub record IsFitting (base outs : List Extent) (x : Node) : Type 0 where
  pub arity : length x.from ≡ shapes.arity x.op
  pub sources : All (λ s. is_source (length base) (length outs) s ≡ true) x.from
  pub parameters : shapes.has_right_parameters x.op ≡ true
  pub shape : (e : Extent) × (shape_of x.op (node_inputs base outs x) ≡ Ok e)

-- the operator of a node, at the shapes that it has in a version
abbrev pub site_in : Version → Node → Site
site_in v x =
    let ins = node_inputs (shapes_of v.base) (outputs_of v) x in
    record { op = x.op; ins = ins; out = output_extent x.op ins }

abbrev pub sites_of : Version → List Site
sites_of v = map (site_in v) v.flow.nodes

-- The execution of a flow, node by node: each operator at its shapes, the arrays that it takes, and
-- what it makes of them.
use Rattle.std.specs.Prelude.{◌≡◌, List, [], ◌∷◌, ◌++◌, map, Ok}
use Rattle.std.specs.Arc.{arc_value}
use Rattle.sz_cells.specs.Extent.{Extent}
use Rattle.sz_spec.specs.declared.op.Op.{Op}
use Rattle.sz_spec.specs.declared.flow.Node.{Node}
use Rattle.sz_spec.specs.Values.{Grid, extents_of}
use Rattle.sz_spec.specs.Shapes.{Site, output_extent}
use Rattle.sz_spec.specs.Evaluation.{output_of}
use Rattle.sz_spec.specs.Flows.{Graph, array_of}
use Rattle.sz_spec.specs.FlowShapes.{output_shapes}
use Rattle.sz_flow.specs.declared.node_run.NodeRun.{NodeRun}

-- an operator that was executed: at which shapes, over which arrays, and its output
pub record Execution : Type 0 where
  pub site : Site
  pub inputs : List Grid
  pub out : Grid

-- an operator at the shapes of these arrays
abbrev pub site_over : Op → List Grid → Site
site_over op inputs =
    let ins = extents_of inputs in record { op = op; ins = ins; out = output_extent op ins }

-- the execution of an operator over these arrays
abbrev pub execution : Op → List Grid → Execution
execution op inputs =
    record { site = site_over op inputs; inputs = inputs; out = output_of op inputs }

-- the executions of nodes, one after another, given the base arrays and the outputs so far
abbrev pub executions_from : List Grid → List Grid → List Node → List Execution
executions_from base outputs [] = []
executions_from base outputs (x ∷ nodes) =
    let e = execution x.op (map (array_of base outputs) x.from) in
    e ∷ executions_from base (outputs ++ e.out ∷ []) nodes

-- the executions of a flow's nodes over base arrays, in the order of the nodes
abbrev pub executions : Graph → List Grid → List Execution
executions flow base = executions_from base [] flow.nodes

-- no node's shape rule is broken over these base arrays
abbrev pub FlowFits : Graph → List Grid → Type 0
FlowFits flow base = (shapes : List Extent) × (output_shapes flow (extents_of base) ≡ Ok shapes)

-- the execution that a node's run holds
abbrev pub execution_of : NodeRun → Execution
execution_of r = record { site = arc_value r.at; inputs = r.inputs; out = arc_value r.out }

-- What a reader may take for granted of executions. Each law is proved of the definitions.
use Rattle.std.specs.Prelude.{◌≡◌, ℕ, List, map, length, All, true, Some}
use Rattle.std.specs.List.{slice_get}
use Rattle.sz_spec.specs.declared.flow.Node.{Node}
use Rattle.sz_spec.specs.Values.{Grid, extents_of}
use Rattle.sz_spec.specs.Shapes.{IsSite}
use Rattle.sz_spec.specs.Flows.{Graph, is_well_formed, evaluations}
use Rattle.sz_spec.specs.Paths.{inputs_of}
use Rattle.sz_flow.specs.Executions.{Execution, execution, executions, FlowFits}

-- the outputs of the executions are the evaluations of the nodes
abbrev pub OutputsAreTheEvaluations : Type 0
OutputsAreTheEvaluations = (flow : Graph) (base : List Grid)
    → map (λ e. e.out) (executions flow base) ≡ evaluations flow base

-- a flow has an execution for each node
abbrev pub EachNodeHasAnExecution : Type 0
EachNodeHasAnExecution = (flow : Graph) (base : List Grid)
    → length (executions flow base) ≡ length flow.nodes

-- of a flow that is well formed, the execution of a node is that of its operator over the arrays
-- that the node takes among all evaluations
abbrev pub ExecutionsAreThoseOfTheirNodes : Type 0
ExecutionsAreThoseOfTheirNodes = (flow : Graph) (base : List Grid) (n : ℕ) (x : Node)
    → is_well_formed flow ≡ true
    → slice_get flow.nodes n ≡ Some x
    → slice_get (executions flow base) n
    ≡ Some (execution x.op (inputs_of flow base (evaluations flow base) n))

-- an operator was executed at a right site, over arrays of its shapes
abbrev pub IsRightExecution : Execution → Type 0
IsRightExecution e = IsSite e.site × (extents_of e.inputs ≡ e.site.ins)
    × (e.out.extent ≡ e.site.out)

-- where a flow is well formed and fits its base arrays, each of its executions is right
abbrev pub ExecutionsAreRight : Type 0
ExecutionsAreRight = (flow : Graph) (base : List Grid) → is_well_formed flow ≡ true
    → FlowFits flow base → All IsRightExecution (executions flow base)

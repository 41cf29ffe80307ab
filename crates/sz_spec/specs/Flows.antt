-- Flows: nodes of operators, each taking base arrays and the outputs of earlier nodes.
use Rattle.std.specs.Prelude.{ℕ, ◌+◌, List, [], ◌∷◌, ◌++◌, map, length, Bool, ◌==◌, nat_lt}
use Rattle.std.specs.Prelude.{if◌then◌else◌, Option, Some, None, is_none, unwrap_or}
use Rattle.std.specs.List.{slice_get}
use Rattle.sz_spec.specs.declared.flow.Node.{Node}
use Rattle.sz_spec.specs.declared.flow.SourceRef.{SourceRef}
use Rattle.sz_spec.specs.declared.flow.SourceRef.TheVariants as source
use Rattle.sz_spec.specs.declared.flow.FlowFault.{FlowFault}
use Rattle.sz_spec.specs.declared.flow.FlowFault.TheVariants.{NoNodes, TooManyNodes, BadSource}
use Rattle.sz_spec.specs.declared.flow.FlowFault.TheVariants.{WrongArity, BadParameter}
use Rattle.sz_spec.specs.declared.flow.FlowFault.TheVariants.{TooManyInputs}
use Rattle.sz_spec.specs.Values.{Grid, no_grid}
use Rattle.sz_spec.specs.Shapes.{arity, has_right_parameters}
use Rattle.sz_spec.specs.Evaluation.{output_of}

-- a flow: how many base arrays it takes, and its nodes
pub record Graph : Type 0 where
  pub inputs : ℕ
  pub nodes : List Node

-- a source is a base array of the flow, or a node before node n
abbrev pub is_source : ℕ → ℕ → SourceRef → Bool
is_source inputs n (source.Input i) = nat_lt i inputs
is_source inputs n (source.Node m) = nat_lt m n

-- the first of two faults
abbrev pub first_fault : Option FlowFault → Option FlowFault → Option FlowFault
first_fault None later = later
first_fault (Some fault) later = Some fault

-- the first source of node n, counted from input i, that is none
abbrev pub source_fault : ℕ → ℕ → ℕ → List SourceRef → Option FlowFault
source_fault inputs n i [] = None
source_fault inputs n i (s ∷ from) =
    if is_source inputs n s then source_fault inputs n (i + 1) from else Some (BadSource n i)

-- the fault of node n: its number of sources, then its sources, then its parameters
abbrev pub node_fault : ℕ → ℕ → Node → Option FlowFault
node_fault inputs n x = if length x.from == arity x.op
    then first_fault (source_fault inputs n 0 x.from)
    (if has_right_parameters x.op then None else Some (BadParameter n))
    else Some (WrongArity n)

-- the fault of the first node that has one, the first of these numbered n
abbrev pub nodes_fault : ℕ → ℕ → List Node → Option FlowFault
nodes_fault inputs n [] = None
nodes_fault inputs n (x ∷ nodes) =
    first_fault (node_fault inputs n x) (nodes_fault inputs (n + 1) nodes)

-- the fault of a flow: 1 to 32 nodes, then at most 32 base arrays, then the nodes in their order
abbrev pub flow_fault : Graph → Option FlowFault
flow_fault g = if length g.nodes == 0 then Some NoNodes
    else if nat_lt 32 (length g.nodes) then Some TooManyNodes
    else if nat_lt 32 g.inputs then Some TooManyInputs
    else nodes_fault g.inputs 0 g.nodes

-- a flow without a fault
abbrev pub is_well_formed : Graph → Bool
is_well_formed g = is_none (flow_fault g)

-- the array that a source stands for, given the base arrays and the outputs of the nodes so far
abbrev pub array_of : List Grid → List Grid → SourceRef → Grid
array_of base outputs (source.Input i) = unwrap_or (slice_get base i) no_grid
array_of base outputs (source.Node m) = unwrap_or (slice_get outputs m) no_grid

-- the outputs of all nodes, one after another
abbrev pub outputs_from : List Grid → List Grid → List Node → List Grid
outputs_from base outputs [] = outputs
outputs_from base outputs (x ∷ nodes) =
    outputs_from base (outputs ++ output_of x.op (map (array_of base outputs) x.from) ∷ []) nodes

-- the evaluation of each node of a flow over base arrays
abbrev pub evaluations : Graph → List Grid → List Grid
evaluations g base = outputs_from base [] g.nodes

-- What a reader may take for granted of flows and of their evaluations. Each law is proved of the
-- definitions.
use Rattle.std.specs.Prelude.{◌≡◌, ℕ, ◌≤◌, List, map, length, All, true, ◌↔◌, Some, Ok}
use Rattle.std.specs.List.{slice_get}
use Rattle.sz_spec.specs.declared.flow.Node.{Node}
use Rattle.sz_cells.specs.Extent.{Extent}
use Rattle.sz_spec.specs.Values.{Grid, extents_of}
use Rattle.sz_spec.specs.Shapes.{arity, has_right_parameters}
use Rattle.sz_spec.specs.Evaluation.{output_of}
use Rattle.sz_spec.specs.Flows.{Graph, is_source, is_well_formed, array_of, evaluations}
use Rattle.sz_spec.specs.FlowShapes.{output_shapes}

-- node n has as many sources as its operator has inputs, each a base array or an earlier node, and
-- right parameters
abbrev pub IsRightNode : ℕ → ℕ → Node → Type 0
IsRightNode inputs n x = (length x.from ≡ arity x.op)
    × All (λ s. is_source inputs n s ≡ true) x.from × (has_right_parameters x.op ≡ true)

-- a flow is well formed exactly where it has 1 to 32 right nodes and at most 32 base arrays
abbrev pub WellFormedFlowsAreRight : Type 0
WellFormedFlowsAreRight = (g : Graph) → (is_well_formed g ≡ true)
    ↔ ((1 ≤ length g.nodes) × (length g.nodes ≤ 32) × (g.inputs ≤ 32)
    × ((n : ℕ) (x : Node) → slice_get g.nodes n ≡ Some x → IsRightNode g.inputs n x))

-- a flow has an output for each node
abbrev pub EachNodeHasAnOutput : Type 0
EachNodeHasAnOutput = (g : Graph) (base : List Grid) → length (evaluations g base) ≡ length g.nodes

-- of a flow that is well formed, the output of a node is that of its operator over the arrays that
-- its sources stand for
abbrev pub OutputsAreThoseOfTheirNodes : Type 0
OutputsAreThoseOfTheirNodes = (g : Graph) (base : List Grid) (n : ℕ) (x : Node)
    → is_well_formed g ≡ true
    → slice_get g.nodes n ≡ Some x
    → slice_get (evaluations g base) n
    ≡ Some (output_of x.op (map (array_of base (evaluations g base)) x.from))

-- where no node's shape rule is broken, the shapes found from those of the base arrays alone are
-- the shapes of the outputs
abbrev pub ShapesFoundAreThoseOfTheOutputs : Type 0
ShapesFoundAreThoseOfTheOutputs = (g : Graph) (base : List Grid) (shapes : List Extent)
    → output_shapes g (extents_of base) ≡ Ok shapes → extents_of (evaluations g base) ≡ shapes

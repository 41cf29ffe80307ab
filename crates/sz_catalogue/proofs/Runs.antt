-- What a version's sources are.
--
-- The key idea: a node of a well-formed flow takes base arrays, of which there are as many as the flow takes, and the
-- outputs of earlier nodes, of which there is one for each node.
use Rattle.std.proofs.Common.{◌≡◌, ℕ, ◌<◌, true, List, [], length, Option, Some, sym, ap, ◌∙◌}
use Rattle.std.proofs.Common.{arith, unwrap_or, option_map}
use Rattle.std.specs.List.{slice_get}
use Rattle.std.specs.Result.{result_unwrap_or}
use Rattle.std.specs.Prelude.{Result}
use Rattle.sz_cells.specs.Extent.{Extent}
use Rattle.sz_spec.specs.Values.{extent_at}
use Rattle.sz_spec.specs.declared.flow.Node.{Node}
use Rattle.sz_spec.specs.declared.flow.SourceRef.{SourceRef}
use Rattle.sz_spec.specs.Flows.{is_source}
use Rattle.sz_spec.specs.FlowShapes.{node_inputs, source_shape}
use Rattle.sz_spec.specs.Paths.{Step, source_of}
use Rattle.sz_spec.proofs.FlowOutputs.{well-formed_parts}
use Rattle.sz_catalogue.specs.Holdings.{Version, shapes_of}
use Rattle.sz_catalogue.specs.Starts.{outputs_of, inputs_of}
use Rattle.sz_catalogue.specs.Kept.{IsRun}
use Rattle.sz_spec.proofs.FlowShapes.{outputs-length, below, each-at, mapped-at, node-of, wider}

-- the outputs' shapes are those that are kept
pub outputs-kept : (v : Version) (outputs : List Extent) → IsRun v outputs → outputs_of v ≡ outputs
outputs-kept v outputs run = ap (λ (r : Result (List Extent) ℕ). result_unwrap_or r []) run.fits

pub outputs-count : (v : Version) (outputs : List Extent) → IsRun v outputs → length outputs ≡ length v.flow.nodes
outputs-count v outputs run = outputs-length v.flow (shapes_of v.base) outputs run.fits

-- a source of a version's flow is there, and the step's input has its shape
pub run-source : (v : Version) (outputs : List Extent) (s : Step) (src : SourceRef) → IsRun v outputs
    → source_of v.flow s ≡ Some src
    → (is_source (length v.base) (length outputs) src ≡ true)
    × (extent_at (inputs_of v s.node) s.input ≡ source_shape (shapes_of v.base) outputs src)
run-source v outputs s src run there =
    let at = node-of (slice_get v.flow.nodes s.node) s.input src there in
    let right = (well-formed_parts v.flow run.right).3 s.node at.0 at.1 in
    let one = each-at (λ (t : SourceRef). is_source v.flow.inputs s.node t ≡ true) at.0.from s.input src right.1 at.2 in
    let count = outputs-count v outputs run in
    let less : s.node < length outputs = omega (arith, count, below v.flow.nodes s.node at.0 at.1) in
    let inputs : inputs_of v s.node ≡ node_inputs (shapes_of v.base) outputs at.0 =
    ap (λ (o : Option Node). unwrap_or (option_map (node_inputs (shapes_of v.base) (outputs_of v)) o) []) at.1
    ∙ ap (λ (es : List Extent). node_inputs (shapes_of v.base) es at.0) (outputs-kept v outputs run) in (
      wider v.flow.inputs (length v.base) s.node (length outputs) src (sym run.count) (omega (arith, less)) one,
      ap (λ (es : List Extent). extent_at es s.input) inputs
          ∙ mapped-at (source_shape (shapes_of v.base) outputs) at.0.from s.input src at.2,
    )

-- the node of a step whose source is there
pub run-node : (v : Version) (outputs : List Extent) (s : Step) (src : SourceRef) → IsRun v outputs
    → source_of v.flow s ≡ Some src → s.node < length outputs
run-node v outputs s src run there =
    let at = node-of (slice_get v.flow.nodes s.node) s.input src there in
    omega (arith, outputs-count v outputs run, below v.flow.nodes s.node at.0 at.1)

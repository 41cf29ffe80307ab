-- The nodes of a flow that is well formed stand between the shapes that were found.
--
-- The key idea: a source of a node is a base array or an earlier node, so it is one among all shapes too, and the rule
-- that held of the shapes so far holds of all.
use Rattle.std.proofs.Common.{◌≡◌, ◌≤◌, ℕ, List, [], map, length, All, Option, Some, is_some, unwrap_or, true, false}
use Rattle.std.proofs.Common.{sym, ap, ◌∙◌, arith, get_or, true≢false}
use Rattle.std.specs.Prelude.{Result, Ok, Err}
use Rattle.std.specs.Result.{result_err, result_unwrap_or}
use Rattle.std.proofs.lemmas.List.{length-map}
use Rattle.std.proofs.lemmas.List.Elements.{All-weaker}
use Rattle.std.proofs.lemmas.Option.{slice_get-get_or}
use Rattle.sz_cells.specs.Extent.{Extent}
use Rattle.sz_spec.specs.Flows.{Graph, is_well_formed, is_source}
use Rattle.sz_spec.specs.declared.flow.Node.{Node}
use Rattle.sz_spec.specs.FlowShapes.{output_shapes}
use Rattle.sz_spec.specs.Values.{extent_at}
use Rattle.sz_spec.proofs.FlowOutputs.{well-formed_parts}
use Rattle.sz_spec.proofs.FlowShapes.{outputs-length, shape-at, wider}
use Rattle.sz_spec.specs.Shapes.{Site}
use Rattle.sz_script.specs.declared.command.BaseName.{BaseName}
use Rattle.sz_catalogue.specs.Holdings.{Workflow, Base, Holdings, flow_named, no_workflow, shapes_of}
use Rattle.sz_catalogue.specs.Starts.{workflow_of, bases_of, version_started}
use Rattle.sz_catalogue.specs.Rules.{has_broken_shapes, has_no_array, has_wrong_base}
use Rattle.sz_catalogue.specs.Sites.{site_over, sites_of, IsFitting}
use Rattle.sz_catalogue.proofs.Bases.{bases-length}
use Rattle.sz_catalogue.proofs.Counts.{right-count}

-- it has few outputs
pub few-outputs : (g : Graph) (base outs : List Extent) → is_well_formed g ≡ true → output_shapes g base ≡ Ok outs
    → length outs ≤ 32
few-outputs g base outs well fits = omega (arith, outputs-length g base outs fits, (well-formed_parts g well).1)

-- and each node stands there
pub nodes-fit : (g : Graph) (base outs : List Extent) → is_well_formed g ≡ true → length base ≡ g.inputs
    → output_shapes g base ≡ Ok outs → All (IsFitting base outs) g.nodes
nodes-fit g base outs well count fits k d inside =
    let x : Node = get_or g.nodes k d in
    let there = slice_get-get_or g.nodes k d inside in
    let right = (well-formed_parts g well).3 k x there in
    record {
      arity = right.0;
      sources =
          All-weaker (λ s. is_source g.inputs k s ≡ true) (λ s. is_source (length base) (length outs) s ≡ true)
          (λ s is. wider g.inputs (length base) k (length outs) s (sym count)
          (omega (arith, inside, outputs-length g base outs fits)) is) x.from right.1;
      parameters = right.2;
      shape = (extent_at outs k, shape-at g base outs k x well fits there);
    }

-- ---- the version that a start would make

flow-here : (c : Holdings) (name : List ℕ) (w : Workflow) → flow_named c name ≡ Some w → workflow_of c name ≡ w
flow-here c name w found = ap (λ (o : Option Workflow). unwrap_or o no_workflow) found

-- there are as many base arrays as its flow takes
pub enough : (c : Holdings) (name : List ℕ) (names : List BaseName) (w : Workflow) → flow_named c name ≡ Some w
    → has_no_array c names ≡ false → has_wrong_base c name names ≡ false
    → length (shapes_of (bases_of c names)) ≡ w.graph.inputs
enough c name names w found held right =
    length-map (bases_of c names) (λ (b : Base). b.array.extent) ∙ bases-length c names held
    ∙ right-count c name names right ∙ ap (λ (x : Workflow). x.graph.inputs) (flow-here c name w found)

-- where no shape rule is broken, shapes are found
pub shapes-found : (c : Holdings) (name : List ℕ) (names : List BaseName) (w : Workflow) (n : ℕ)
    → flow_named c name ≡ Some w → has_broken_shapes c name names ≡ false
    → output_shapes w.graph (shapes_of (bases_of c names)) ≡ Err n → ⊥
shapes-found c name names w n found none broken =
    let base = shapes_of (bases_of c names) in
    let told : is_some (result_err (output_shapes w.graph base)) ≡ false =
    ap (λ (x : Workflow). is_some (result_err (output_shapes x.graph base))) (sym (flow-here c name w found)) ∙ none in
    true≢false (sym (ap (λ (r : Result (List Extent) ℕ). is_some (result_err r)) broken) ∙ told)

-- and the operators between these are those of the version
pub started-sites : (c : Holdings) (name : List ℕ) (names : List BaseName) (w : Workflow) (outs : List Extent)
    → flow_named c name ≡ Some w → output_shapes w.graph (shapes_of (bases_of c names)) ≡ Ok outs
    → map (site_over (shapes_of (bases_of c names)) outs) w.graph.nodes ≡ sites_of (version_started c name names)
started-sites c name names w outs found fits =
    let base = shapes_of (bases_of c names) in
    let between : Workflow → Result (List Extent) ℕ → List Site =
    λ x r. map (site_over base (result_unwrap_or r [])) x.graph.nodes in
    sym (ap (λ (x : Workflow). between x (output_shapes x.graph base)) (flow-here c name w found) ∙ ap (between w) fits)

-- they are few
pub few-sites : (g : Graph) (base outs : List Extent) → is_well_formed g ≡ true
    → length (map (site_over base outs) g.nodes) ≤ 32
few-sites g base outs well = omega (
  arith,
  length-map g.nodes (site_over base outs),
  (well-formed_parts g well).1,
)

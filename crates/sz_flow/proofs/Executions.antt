-- What follows of executions.
--
-- The key idea: a source of a right node looks no further than the outputs before that node, so it stands for
-- the same array however many outputs come behind. The shape rules go along by the same steps as the outputs.
use Rattle.std.proofs.Common.{◌≡◌, ℕ, zero, suc, ◌+◌, ◌<◌, ◌≤◌, true, inl, inr, ◌⊎◌}
use Rattle.std.proofs.Common.{List, [], ◌∷◌, ◌++◌, map, length, fold, All, Some, Ok, Err, Result}
use Rattle.std.proofs.Common.{refl, sym, ap, subst, ◌∙◌, arith, append_assoc, append-nil}
use Rattle.std.proofs.Common.{length-append, ltb-true, unwrap_or, Option}
use Rattle.std.specs.Result.{result_map_both, result_unwrap_or}
use Rattle.std.specs.List.{slice_get}
use Rattle.std.specs.Prelude.{option_map}
use Rattle.std.proofs.lemmas.List.{get_or_append_left, map-append, length-map}
use Rattle.std.proofs.lemmas.List.Elements.{All-cons, All-nil, All-weaker}
use Rattle.std.proofs.lemmas.Option.{unwrap_or-slice_get}
use Rattle.sz_cells.specs.Extent.{Extent}
use Rattle.sz_spec.specs.declared.flow.Node.{Node}
use Rattle.sz_spec.specs.declared.flow.SourceRef.{SourceRef}
use Rattle.sz_spec.specs.declared.flow.SourceRef.TheVariants as source
use Rattle.sz_spec.specs.declared.shapes.ShapeFault.{ShapeFault}
use Rattle.sz_spec.specs.Values.{Grid, no_grid, no_extent, extents_of}
use Rattle.sz_spec.specs.Shapes.{arity, shape_of, output_extent}
use Rattle.sz_spec.specs.Evaluation.{output_of}
use Rattle.sz_spec.specs.Flows.{is_source, array_of, outputs_from, evaluations}
use Rattle.sz_spec.specs.FlowShapes.{node_inputs, with_node}
use Rattle.sz_spec.specs.Paths.{inputs_of}
use Rattle.sz_spec.specs.LawsFlows.{IsRightNode}
use Rattle.sz_spec.proofs.FlowOutputs.{map-agree, well-formed_parts}
use Rattle.sz_spec.proofs.FlowShapes.{inputs-shapes}
use Rattle.sz_flow.specs.Executions.{Execution, execution, executions_from}
use Rattle.sz_flow.specs.Nodes.{inputs_among, NodeFits}
use Rattle.sz_flow.specs.Laws.{OutputsAreTheEvaluations, EachNodeHasAnExecution}
use Rattle.sz_flow.specs.Laws.{ExecutionsAreThoseOfTheirNodes}
use Rattle.sz_flow.specs.Laws.{IsRightExecution, ExecutionsAreRight}

-- ---- outputs

outputs-same : (base outputs : List Grid) (nodes : List Node)
    → outputs ++ map (λ (e : Execution). e.out) (executions_from base outputs nodes) ≡ outputs_from base outputs nodes
outputs-same base outputs [] = append-nil outputs
outputs-same base outputs (x ∷ nodes) =
    let e = execution x.op (inputs_among base outputs x) in
    sym (append_assoc outputs (e.out ∷ []) (map (λ (e : Execution). e.out)
    (executions_from base (outputs ++ e.out ∷ []) nodes)))
    ∙ outputs-same base (outputs ++ e.out ∷ []) nodes

-- the outputs of the executions are the evaluations
pub outputs-evaluations : OutputsAreTheEvaluations
outputs-evaluations flow base = outputs-same base [] flow.nodes

executions-length : (base outputs : List Grid) (nodes : List Node)
    → length (executions_from base outputs nodes) ≡ length nodes
executions-length base outputs [] = refl
executions-length base outputs (x ∷ nodes) =
    let o : Grid = output_of x.op (inputs_among base outputs x) in
    omega (arith, executions-length base (outputs ++ o ∷ []) nodes)

-- there is an execution for each node
pub executions-count : EachNodeHasAnExecution
executions-count flow base = executions-length base [] flow.nodes

-- ---- inputs

-- a source among the outputs so far stands for the same array with one more behind them
source-next : (base outputs : List Grid) (o : Grid) (inputs n : ℕ) (s : SourceRef) → n ≤ length outputs
    → is_source inputs n s ≡ true → array_of base (outputs ++ o ∷ []) s ≡ array_of base outputs s
source-next base outputs o inputs n (source.Input i) few right = refl
source-next base outputs o inputs n (source.Node m) few right =
    let below : m < n = ltb-true m n right in
    unwrap_or-slice_get (outputs ++ o ∷ []) m no_grid
    ∙ get_or_append_left outputs (o ∷ []) no_grid m (omega arith)
    ∙ sym (unwrap_or-slice_get outputs m no_grid)

-- and with all of them
source-kept : (base outputs : List Grid) (nodes : List Node) (inputs n : ℕ) (s : SourceRef) → n ≤ length outputs
    → is_source inputs n s ≡ true → array_of base (outputs_from base outputs nodes) s ≡ array_of base outputs s
source-kept base outputs [] inputs n s few right = refl
source-kept base outputs (x ∷ nodes) inputs n s few right =
    let o : Grid = output_of x.op (inputs_among base outputs x) in
    source-kept base (outputs ++ o ∷ []) nodes inputs n s (omega (arith, few, length-append outputs (o ∷ []))) right
    ∙ source-next base outputs o inputs n s few right

inputs-kept : (base outputs : List Grid) (nodes : List Node) (inputs : ℕ) (x : Node)
    → All (λ s. is_source inputs (length outputs) s ≡ true) x.from
    → inputs_among base (outputs_from base outputs nodes) x ≡ inputs_among base outputs x
inputs-kept base outputs nodes inputs x right =
    let all = outputs_from base outputs nodes in
    map-agree (array_of base all) (array_of base outputs) x.from
    (All-weaker (λ s. is_source inputs (length outputs) s ≡ true) (λ s. array_of base all s ≡ array_of base outputs s)
    (λ s one. source-kept base outputs nodes inputs (length outputs) s (omega arith) one) x.from right)

-- the execution of a node is that of its operator over what it takes among all outputs
execution-at : (base outputs : List Grid) (nodes : List Node) (inputs k n : ℕ) (x : Node)
    → slice_get nodes k ≡ Some x → length outputs + k ≡ n
    → All (λ s. is_source inputs n s ≡ true) x.from
    → slice_get (executions_from base outputs nodes) k
    ≡ Some (execution x.op (inputs_among base (outputs_from base outputs nodes) x))
execution-at base outputs [] inputs k n x there at right = (cc)
execution-at base outputs (y ∷ nodes) inputs zero n x there at right =
    let same : y ≡ x = cc in
    let here : n ≡ length outputs = omega arith in
    let sources = subst (λ (m : ℕ). All (λ s. is_source inputs m s ≡ true) x.from) here right in
    ap (λ (z : Node). Some (execution z.op (inputs_among base outputs z))) same
    ∙ ap (λ (gs : List Grid). Some (execution x.op gs)) (sym (inputs-kept base outputs (y ∷ nodes) inputs x sources))
execution-at base outputs (y ∷ nodes) inputs (suc k) n x there at right =
    let o : Grid = output_of y.op (inputs_among base outputs y) in
    execution-at base (outputs ++ o ∷ []) nodes inputs k n x there (omega (arith, at, length-append outputs (o ∷ [])))
    right

pub executions-at : ExecutionsAreThoseOfTheirNodes
executions-at flow base n x well there =
    let right = (well-formed_parts flow well).3 n x there in
    let arrays = λ (z : Node). map (array_of base (evaluations flow base)) z.from in
    let takes : inputs_of flow base (evaluations flow base) n ≡ arrays x =
    ap (λ (o : Option Node). unwrap_or (option_map arrays o) []) there in
    execution-at base [] flow.nodes flow.inputs n n x there (omega arith) right.1
    ∙ ap (λ (gs : List Grid). Some (execution x.op gs)) (sym takes)

-- ---- shapes

-- a shape rule gives a shape or a fault
given-or_fault : (r : Result Extent ShapeFault) → ((e : Extent) × (r ≡ Ok e)) ⊎ ((f : ShapeFault) × (r ≡ Err f))
given-or_fault (Ok e) = inl (e, refl)
given-or_fault (Err f) = inr (f, refl)

-- a fault stays one
faults-stay : (base : List Extent) (n : ℕ) (nodes : List Node) → fold (with_node base) (Err n) nodes ≡ Err n
faults-stay base n [] = refl
faults-stay base n (x ∷ nodes) = faults-stay base n nodes

-- nodes fit behind these outputs
abbrev pub Follow : List Grid → List Grid → List Node → Type 0
Follow base outputs nodes =
    (shapes : List Extent) × (fold (with_node (extents_of base)) (Ok (extents_of outputs)) nodes ≡ Ok shapes)

-- where a node and others fit, it does, and the others do behind its output
pub follow-next : (base outputs : List Grid) (x : Node) (nodes : List Node) → Follow base outputs (x ∷ nodes)
    → NodeFits base outputs x × Follow base (outputs ++ output_of x.op (inputs_among base outputs x) ∷ []) nodes
follow-next base outputs x nodes known =
    let made : Grid = output_of x.op (inputs_among base outputs x) in
    let ins = node_inputs (extents_of base) (extents_of outputs) x in
    let next = λ (r : Result Extent ShapeFault).
    fold (with_node (extents_of base)) (result_map_both (λ e. extents_of outputs ++ e ∷ [])
    (λ fault. length (extents_of outputs)) r) nodes in
    let found : extents_of (inputs_among base outputs x) ≡ ins = inputs-shapes base outputs x.from in
    elim (given-or_fault (shape_of x.op ins)) [
      | inl given ↦
          let rule : shape_of x.op (extents_of (inputs_among base outputs x)) ≡ Ok given.0 =
          ap (shape_of x.op) found ∙ given.1 in
          let shape : made.extent ≡ given.0 =
          ap (λ (r : Result Extent ShapeFault). result_unwrap_or r no_extent) rule in
          let more : extents_of (outputs ++ made ∷ []) ≡ extents_of outputs ++ given.0 ∷ [] =
          map-append (λ (g : Grid). g.extent) outputs (made ∷ [])
          ∙ ap (λ (e : Extent). extents_of outputs ++ e ∷ []) shape in (
            (given.0, rule),
            (
              known.0,
              ap (λ (es : List Extent). fold (with_node (extents_of base)) (Ok es) nodes) more
                  ∙ sym (ap next given.1) ∙ known.1,
            ),
          )
      | inr fault ↦
          let stays = faults-stay (extents_of base) (length (extents_of outputs)) nodes in
          let clash = sym stays ∙ sym (ap next fault.1) ∙ known.1 in
          (cc)
    ]

-- a node that fits is executed at a right site
execution-right : (base outputs : List Grid) (inputs n : ℕ) (x : Node) → IsRightNode inputs n x
    → NodeFits base outputs x → IsRightExecution (execution x.op (inputs_among base outputs x))
execution-right base outputs inputs n x right fits =
    let gs = inputs_among base outputs x in
    let long : length (extents_of gs) ≡ arity x.op =
    length-map gs (λ (g : Grid). g.extent) ∙ length-map x.from (array_of base outputs) ∙ right.0 in
    let shape : shape_of x.op (extents_of gs) ≡ Ok (output_extent x.op (extents_of gs)) =
    rw fits.1 refl in
    (record { arity = long; parameters = right.2; shape = shape }, refl, refl)

executions-fit : (base outputs : List Grid) (nodes : List Node) (inputs n : ℕ)
    → ((k : ℕ) (x : Node) → slice_get nodes k ≡ Some x → IsRightNode inputs (n + k) x)
    → Follow base outputs nodes → All IsRightExecution (executions_from base outputs nodes)
executions-fit base outputs [] inputs n right known = All-nil IsRightExecution
executions-fit base outputs (x ∷ nodes) inputs n right known =
    let e = execution x.op (inputs_among base outputs x) in
    let both = follow-next base outputs x nodes known in
    let here = execution-right base outputs inputs (n + 0) x (right zero x refl) both.0 in
    let later : (k : ℕ) (y : Node) → slice_get nodes k ≡ Some y → IsRightNode inputs ((n + 1) + k) y =
    λ k y there.
    let next : n + suc k ≡ (n + 1) + k = omega arith in
    subst (λ (m : ℕ). IsRightNode inputs m y) next (right (suc k) y there) in
    All-cons IsRightExecution e (executions_from base (outputs ++ e.out ∷ []) nodes) here
    (executions-fit base (outputs ++ e.out ∷ []) nodes inputs (n + 1) later both.1)

pub executions-right : ExecutionsAreRight
executions-right flow base well fits =
    let parts = well-formed_parts flow well in
    let right : (k : ℕ) (x : Node) → slice_get flow.nodes k ≡ Some x → IsRightNode flow.inputs (0 + k) x =
    λ k x there.
    let number : k ≡ 0 + k = omega arith in
    subst (λ (m : ℕ). IsRightNode flow.inputs m x) number (parts.3 k x there) in
    executions-fit base [] flow.nodes flow.inputs 0 right fits

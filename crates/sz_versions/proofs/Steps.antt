-- The steps of a path, and the executions of their nodes.
--
-- The key idea: the execution of a node is that of its operator over the arrays that the node takes among the
-- evaluations. So its shapes are those that were found when the version was started, and where one step follows another
-- the first one leads to the shape from which the second starts.
use Rattle.std.proofs.Common.{◌≡◌, ℕ, suc, zero, ◌<◌, List, [], ◌∷◌, map, length, true, refl, sym}
use Rattle.std.proofs.Common.{ap, ap₂, ◌∙◌, arith, Option, Some, None, unwrap_or, eqb-true}
use Rattle.std.specs.Prelude.{Result}
use Rattle.std.specs.List.{slice_get}
use Rattle.std.specs.Option.{option_map, option_and_then}
use Rattle.std.specs.Result.{result_unwrap_or}
use Rattle.std.proofs.lemmas.List.{length-map}
use Rattle.std.proofs.lemmas.Option.{slice_get-map, slice_get_within}
use Rattle.sz_cells.specs.Extent.{Extent}
use Rattle.sz_spec.specs.declared.flow.Node.{Node}
use Rattle.sz_spec.specs.declared.flow.SourceRef.{SourceRef}
use Rattle.sz_spec.specs.declared.flow.SourceRef.TheVariants as source
use Rattle.sz_spec.specs.declared.modes.Dir.{Dir}
use Rattle.sz_spec.specs.declared.modes.Dir.TheVariants.{Back, Forward}
use Rattle.sz_spec.specs.Values.{Grid, no_grid, extent_at, extents_of}
use Rattle.sz_spec.specs.Flows.{Graph, array_of}
use Rattle.sz_spec.specs.FlowShapes.{node_inputs, output_shapes}
use Rattle.sz_spec.specs.Paths.{Step, source_of, is_output_of, is_there, follows, inputs_of, extent_of}
use Rattle.sz_spec.proofs.FlowShapes.{inputs-shapes, shapes-found}
use Rattle.sz_spec.specs.Sides.{near_side, far_side}
use Rattle.sz_flow.specs.Executions.{Execution, execution}
use Rattle.sz_flow.proofs.Executions.{outputs-evaluations, executions-at}
use Rattle.sz_catalogue.specs.Holdings.{Base, Version, arrays_of, shapes_of}
use Rattle.sz_catalogue.specs.Starts as starts
use Rattle.sz_catalogue.specs.Changes.{outputs}
use Rattle.sz_versions.specs.Runs.{executions_of, IsSoundVersion}

-- ---- shapes

-- the shape of an array of a list
extent-at : (gs : List Grid) (n : ℕ) → extent_at (extents_of gs) n ≡ extent_of gs n
extent-at [] n = refl
extent-at (g ∷ gs) zero = refl
extent-at (g ∷ gs) (suc n) = extent-at gs n

-- the shape of the array that a source of a node stands for
extent-source : (base outs : List Grid) (from : List SourceRef) (i : ℕ) (s : SourceRef) → slice_get from i ≡ Some s
    → extent_at (extents_of (map (array_of base outs) from)) i ≡ (array_of base outs s).extent
extent-source base outs [] i s is = cc
extent-source base outs (r ∷ from) zero s is =
    let same : r ≡ s = cc in ap (λ (x : SourceRef). (array_of base outs x).extent) same
extent-source base outs (r ∷ from) (suc i) s is = extent-source base outs from i s is

-- the shapes of base arrays
pub base-shapes : (base : List Base) → extents_of (arrays_of base) ≡ shapes_of base
base-shapes [] = refl
base-shapes (b ∷ base) = ap (λ (es : List Extent). b.array.extent ∷ es) (base-shapes base)

-- the shapes of a version's outputs are those that were found
pub outputs-shapes : (v : Version) → IsSoundVersion v → extents_of (outputs v) ≡ starts.outputs_of v
outputs-shapes v sound =
    let fits = sound.run.1.fits in
    shapes-found v.flow (arrays_of v.base) sound.run.0
    (ap (λ (es : List Extent). output_shapes v.flow es) (base-shapes v.base) ∙ fits)
    ∙ sym (ap (λ (r : Result (List Extent) ℕ). result_unwrap_or r []) fits)

-- ---- one step

-- The node of a step, with its input, and the execution of it: that of its operator over what it takes.
pub record IsStepOf (v : Version) (s : Step) (e : Execution) : Type 0 where
  pub node : Node
  pub there : slice_get v.flow.nodes s.node ≡ Some node
  pub from : SourceRef
  pub has : slice_get node.from s.input ≡ Some from
  pub is : e ≡ execution node.op (inputs_of v.flow (arrays_of v.base) (outputs v) s.node)
  pub takes : inputs_of v.flow (arrays_of v.base) (outputs v) s.node
      ≡ map (array_of (arrays_of v.base) (outputs v)) node.from
  pub made : slice_get (outputs v) s.node ≡ Some e.out

-- a step that is there has a node and an input
there-node : (flow : Graph) (s : Step) → is_there (source_of flow s) ≡ true
    → (x : Node) × (slice_get flow.nodes s.node ≡ Some x) × (r : SourceRef) × (slice_get x.from s.input ≡ Some r)
there-node flow s there = at (slice_get flow.nodes s.node) refl there where
  some : (o : Option SourceRef) → is_there o ≡ true → (r : SourceRef) × (o ≡ Some r)
  some None h = cc
  some (Some r) h = (r, refl)

  at : (o : Option Node) → slice_get flow.nodes s.node ≡ o
      → is_there (option_and_then (λ (x : Node). slice_get x.from s.input) o) ≡ true
      → (x : Node) × (slice_get flow.nodes s.node ≡ Some x) × (r : SourceRef) × (slice_get x.from s.input ≡ Some r)
  at None is h = cc
  at (Some x) is h = let r = some (slice_get x.from s.input) h in (x, is, r.0, r.1)

-- its execution
pub step-of : (v : Version) (s : Step) (e : Execution) → IsSoundVersion v → is_there (source_of v.flow s) ≡ true
    → slice_get (executions_of v) s.node ≡ Some e → IsStepOf v s e
step-of v s e sound there at =
    let found = there-node v.flow s there in
    let base = arrays_of v.base in
    let all = executions-at v.flow base s.node found.0 sound.run.1.right found.1 in
    let takes = λ (x : Node). map (array_of base (outputs v)) x.from in
    record {
      node = found.0;
      there = found.1;
      from = found.2;
      has = found.3;
      is = some-same _ _ (sym at ∙ all);
      takes = ap (λ (o : Option Node). unwrap_or (option_map takes o) []) found.1;
      made = ap (λ (gs : List Grid). slice_get gs s.node) (sym (outputs-evaluations v.flow base))
          ∙ slice_get-map (λ (x : Execution). x.out) (executions_of v) s.node
          ∙ ap (option_map (λ (x : Execution). x.out)) at;
    } where
      some-same : (a b : Execution) → Some a ≡ Some b → a ≡ b
      some-same a b h = cc

-- every step that is there has an execution
pub step-there : (v : Version) (s : Step) → IsSoundVersion v → is_there (source_of v.flow s) ≡ true
    → (e : Execution) × (slice_get (executions_of v) s.node ≡ Some e)
step-there v s sound there =
    let found = there-node v.flow s there in
    (_, executions-at v.flow (arrays_of v.base) s.node found.0 sound.run.1.right found.1)

-- the input is one of the operator's
pub step-input : (v : Version) (s : Step) (e : Execution) → IsStepOf v s e → s.input < length e.site.ins
step-input v s e h =
    let base = arrays_of v.base in
    let arrays = map (array_of base (outputs v)) h.node.from in
    let long : length e.site.ins ≡ length h.node.from =
    ap (λ (x : Execution). length x.site.ins) h.is
    ∙ length-map (inputs_of v.flow base (outputs v) s.node) (λ (g : Grid). g.extent)
    ∙ ap (λ (gs : List Grid). length gs) h.takes
    ∙ length-map h.node.from (array_of base (outputs v)) in
    omega (arith, long, slice_get_within h.node.from s.input h.from h.has)

-- the shape of the output, and of the input
pub step-out : (v : Version) (s : Step) (e : Execution) → IsStepOf v s e → e.site.out ≡ extent_of (outputs v) s.node
step-out v s e h =
    ap (λ (x : Execution). x.site.out) h.is ∙ sym (ap (λ (x : Execution). x.out.extent) h.is)
    ∙ sym (ap (λ (o : Option Grid). (unwrap_or o no_grid).extent) h.made)

pub step-in : (v : Version) (s : Step) (e : Execution) (h : IsStepOf v s e)
    → extent_at e.site.ins s.input ≡ (array_of (arrays_of v.base) (outputs v) h.from).extent
step-in v s e h =
    ap (λ (x : Execution). extent_at x.site.ins s.input) h.is
    ∙ ap (λ (gs : List Grid). extent_at (extents_of gs) s.input) h.takes
    ∙ extent-source (arrays_of v.base) (outputs v) h.node.from s.input h.from h.has

-- the shape from which it starts is the one that was found when the version was started
pub step-starts : (v : Version) (s : Step) (e : Execution) (dir : Dir) → IsSoundVersion v → IsStepOf v s e
    → near_side dir e.site s.input ≡ starts.step_start dir v s
step-starts v s e Back sound h =
    step-out v s e h ∙ sym (extent-at (outputs v) s.node)
    ∙ ap (λ (es : List Extent). extent_at es s.node) (outputs-shapes v sound)
step-starts v s e Forward sound h =
    let base = arrays_of v.base in
    let inputs = λ (es os : List Extent). node_inputs es os h.node in
    ap (λ (x : Execution). extent_at x.site.ins s.input) h.is
    ∙ ap (λ (gs : List Grid). extent_at (extents_of gs) s.input) h.takes
    ∙ ap (λ (es : List Extent). extent_at es s.input) (inputs-shapes base (outputs v) h.node.from
    ∙ ap₂ inputs (base-shapes v.base) (outputs-shapes v sound)
    ∙ sym (ap (λ (o : Option Node).
    unwrap_or (option_map (node_inputs (shapes_of v.base) (starts.outputs_of v)) o) []) h.there))

-- ---- one step behind another

-- a source that is the output of a node stands for that node's output
output-source : (base outs : List Grid) (n : ℕ) (o : Option SourceRef) (r : SourceRef) → is_output_of n o ≡ true
    → o ≡ Some r → (array_of base outs r).extent ≡ extent_of outs n
output-source base outs n None r is at = cc
output-source base outs n (Some (source.Input i)) r is at = cc
output-source base outs n (Some (source.Node m)) r is at =
    let number : m ≡ n = eqb-true m n is in
    let same : source.Node m ≡ r = cc in
    sym (ap (λ (x : SourceRef). (array_of base outs x).extent) same)
    ∙ ap (λ (k : ℕ). extent_of outs k) number

-- where a step's input comes from
source-has : (v : Version) (s : Step) (e : Execution) (h : IsStepOf v s e) → source_of v.flow s ≡ Some h.from
source-has v s e h =
    ap (λ (o : Option Node). option_and_then (λ (x : Node). slice_get x.from s.input) o) h.there ∙ h.has

-- where a step follows another, that one leads to the shape from which it starts
pub step-leads : (v : Version) (s t : Step) (d e : Execution) (dir : Dir) → IsStepOf v s d → IsStepOf v t e
    → follows dir v.flow s t ≡ true → far_side dir d.site s.input ≡ near_side dir e.site t.input
step-leads v s t d e Back g h follow =
    step-in v s d g
    ∙ output-source (arrays_of v.base) (outputs v) t.node (source_of v.flow s) g.from follow (source-has v s d g)
    ∙ sym (step-out v t e h)
step-leads v s t d e Forward g h follow =
    step-out v s d g
    ∙ sym (step-in v t e h
    ∙ output-source (arrays_of v.base) (outputs v) s.node (source_of v.flow t) h.from follow (source-has v t e h))

-- Paths of a flow: the steps of a joined path can be taken one after the other, by views of the nodes.
--
-- The key idea: where a step follows another, one's input is the other's output, so the array that stands for the
-- first is the one that stands for the second, and so is its shape.
use Rattle.std.proofs.Common.{◌≡◌, ℕ, ◌<◌, ◌&&◌, true, true≢false, List, [], ◌∷◌, map, length, Some}
use Rattle.std.proofs.Common.{None, refl, sym, ap, subst, ◌∙◌, arith, eqb-true}
use Rattle.std.specs.Prelude.{Option, option_map, unwrap_or}
use Rattle.std.specs.List.{slice_get}
use Rattle.std.proofs.lemmas.Bool.{and_parts}
use Rattle.std.proofs.lemmas.List.{length-map}
use Rattle.std.proofs.lemmas.List.Elements.{All-head, All-tail}
use Rattle.std.proofs.lemmas.Option.{slice_get-map, slice_get_within}
use Rattle.sz_cells.specs.Extent.{Extent}
use Rattle.sz_spec.specs.declared.flow.Node.{Node}
use Rattle.sz_spec.specs.declared.flow.SourceRef.{SourceRef}
use Rattle.sz_spec.specs.declared.flow.SourceRef.TheVariants as source
use Rattle.sz_spec.specs.declared.modes.Dir.{Dir}
use Rattle.sz_spec.specs.declared.modes.Dir.TheVariants.{Back, Forward}
use Rattle.sz_spec.specs.Values.{Grid, no_grid, input_at, extent_at}
use Rattle.sz_spec.specs.Flows.{Graph, array_of}
use Rattle.sz_spec.specs.Paths.{Step, source_of, is_output_of, is_there, follows, are_joined, inputs_of}
use Rattle.sz_spec.specs.Paths.{start_extent}
use Rattle.sz_spec.proofs.PayloadLineage.{extent-of_input}
use Rattle.sz_spec.specs.Sides.{near_side, far_side}
use Rattle.sz_query.specs.Views.{View, view_site, IsUsable}
use Rattle.sz_query.specs.Answers.{IsStep, AreSteps}
use Rattle.sz_query.specs.Laws.{IsOfNode, JoinedPathsAreSteps}
use Rattle.sz_query.proofs.Composed.{node-there, inputs-at}

-- a source that is there has a number below how many there are
there-within : (from : List SourceRef) (i : ℕ) (o : Option SourceRef) → slice_get from i ≡ o → is_there o ≡ true
    → i < length from
there-within from i None is there = absurd (true≢false (sym there))
there-within from i (Some x) is there = slice_get_within from i x is

-- the array of a source that is the output of a node
output-named : (base outputs : List Grid) (n : ℕ) (o : Option SourceRef) → is_output_of n o ≡ true
    → unwrap_or (option_map (array_of base outputs) o) no_grid ≡ unwrap_or (slice_get outputs n) no_grid
output-named base outputs n None named = absurd (true≢false (sym named))
output-named base outputs n (Some (source.Input i)) named = absurd (true≢false (sym named))
output-named base outputs n (Some (source.Node m)) named =
    ap (λ (k : ℕ). unwrap_or (slice_get outputs k) no_grid) (eqb-true m n named)

-- where a step's input comes from, at the node
source-at : (flow : Graph) (s : Step) (x : Node) → slice_get flow.nodes s.node ≡ Some x
    → source_of flow s ≡ slice_get x.from s.input
source-at flow s x there = rw there refl

-- the array of a step's input that is the output of a node
input-named : (flow : Graph) (base outputs : List Grid) (s : Step) (x : Node) (n : ℕ)
    → slice_get flow.nodes s.node ≡ Some x → is_output_of n (source_of flow s) ≡ true
    → input_at (inputs_of flow base outputs s.node) s.input ≡ unwrap_or (slice_get outputs n) no_grid
input-named flow base outputs s x n there named =
    ap (λ (arrays : List Grid). input_at arrays s.input) (inputs-at flow base outputs s.node x there)
    ∙ ap (λ (o : Option Grid). unwrap_or o no_grid) (slice_get-map (array_of base outputs) x.from s.input)
    ∙ output-named base outputs n (slice_get x.from s.input)
    (ap (is_output_of n) (sym (source-at flow s x there)) ∙ named)

-- the shape in which a path starts is that from which its first step does
near-at : (dir : Dir) (flow : Graph) (base outputs : List Grid) (s : Step) (v : View)
    → IsOfNode flow base outputs s.node v
    → start_extent dir flow base outputs s ≡ near_side dir (view_site v) s.input
near-at Back flow base outputs s v seen = sym seen.out
near-at Forward flow base outputs s v seen =
    sym (ap (λ (shapes : List Extent). extent_at shapes s.input) seen.ins
    ∙ extent-of_input (inputs_of flow base outputs s.node) s.input)

-- the step that follows another starts from the shape to which that leads
next-starts : (dir : Dir) (flow : Graph) (base outputs : List Grid) (s t : Step) (v w : View)
    → follows dir flow s t ≡ true → IsOfNode flow base outputs s.node v → IsOfNode flow base outputs t.node w
    → start_extent dir flow base outputs t ≡ far_side dir (view_site v) s.input
next-starts Back flow base outputs s t v w after seen next =
    let x = node-there (slice_get flow.nodes s.node) (view_site v).op seen.op in
    sym (ap (λ (shapes : List Extent). extent_at shapes s.input) seen.ins
    ∙ extent-of_input (inputs_of flow base outputs s.node) s.input
    ∙ ap (λ (g : Grid). g.extent) (input-named flow base outputs s x.0 t.node x.1 after))
next-starts Forward flow base outputs s t v w after seen next =
    let x = node-there (slice_get flow.nodes t.node) (view_site w).op next.op in
    ap (λ (g : Grid). g.extent) (input-named flow base outputs t x.0 s.node x.1 after) ∙ sym seen.out

-- a step of a flow, by a view of its node, can be taken from the shape in which a path of it starts
step-taken : (dir : Dir) (flow : Graph) (base outputs : List Grid) (s : Step) (v : View)
    → is_there (source_of flow s) ≡ true → IsOfNode flow base outputs s.node v → IsUsable v
    → IsStep dir v s.input (start_extent dir flow base outputs s)
step-taken dir flow base outputs s v there seen ready =
    let x = node-there (slice_get flow.nodes s.node) (view_site v).op seen.op in
    let source = source-at flow s x.0 x.1 in
    let within = there-within x.0.from s.input (slice_get x.0.from s.input) refl
    (ap is_there (sym source) ∙ there) in
    let arrays = ap (λ (gs : List Grid). length gs) (inputs-at flow base outputs s.node x.0 x.1)
    ∙ length-map x.0.from (array_of base outputs) in
    let shapes = ap (λ (es : List Extent). length es) seen.ins
    ∙ length-map (inputs_of flow base outputs s.node) (λ (g : Grid). g.extent) in
    record {
      input = omega (arith, within, arrays, shapes);
      near = near-at dir flow base outputs s v seen;
      ready = ready;
    }

-- views of the nodes of a joined path
pub joined-steps : JoinedPathsAreSteps
joined-steps dir flow base outputs s path [] joined seen ready = absurd seen
joined-steps dir flow base outputs s [] (v ∷ []) joined seen ready =
    (step-taken dir flow base outputs s v joined seen.0 (All-head IsUsable v [] ready), tt)
joined-steps dir flow base outputs s [] (v ∷ w ∷ views) joined seen ready = absurd seen.1
joined-steps dir flow base outputs s (t ∷ path) (v ∷ []) joined seen ready = absurd seen.1
joined-steps dir flow base outputs s (t ∷ path) (v ∷ w ∷ views) joined seen ready =
    let here = is_there (source_of flow s) && follows dir flow s t in
    let both = and_parts here (are_joined dir flow (t ∷ path)) joined in
    let first = and_parts (is_there (source_of flow s)) (follows dir flow s t) both.0 in
    let rest = joined-steps dir flow base outputs t path (w ∷ views) both.1 seen.1
    (All-tail IsUsable v (w ∷ views) ready) in (
      step-taken dir flow base outputs s v first.0 seen.0 (All-head IsUsable v (w ∷ views) ready),
      subst (λ (e : Extent). AreSteps dir (w ∷ views) (map (λ (u : Step). u.input) (t ∷ path)) e)
          (next-starts dir flow base outputs s t v w first.1 seen.0 seen.1.0) rest,
    )

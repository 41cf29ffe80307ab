-- What a log holds is right: each array is within the limits, and each flow is well formed. So the operators of a
-- version that a body says work at right shapes.
--
-- The key idea: what is held came by commands that were read, and a node's shape rule gives right shapes of right ones.
use Rattle.std.proofs.Common.{◌≡◌, ⊎_elim, inl, inr, ℕ, zero, suc, ◌+◌, ◌-◌, ◌<◌, ◌≤◌, List, [], ◌∷◌, ◌++◌, length}
use Rattle.std.proofs.Common.{map, filter, refl, sym, ap, subst, ◌∙◌, arith, true, false, true≢false, Bool, ◌&&◌}
use Rattle.std.proofs.Common.{nat_lt, Option, Some, None, is_none, is_some, option_map, unwrap_or, All}
use Rattle.std.proofs.Common.{fold, length-append, ltb-true}
use Rattle.std.specs.Prelude.{if◌then◌else◌, Result, Ok, Err}
use Rattle.std.specs.Cmp.Lexicographic.{slice_cmp, same_text}
use Rattle.std.specs.List.{list_all, slice_get}
use Rattle.std.specs.Ordering.{nat_cmp, eq_by_cmp}
use Rattle.std.specs.Result.{result_err, result_unwrap_or}
use Rattle.std.specs.Str.{bytes_eq}
use Rattle.std.proofs.lemmas.Bool.{and_parts}
use Rattle.std.proofs.lemmas.Cmp.{nat_list_cmp_total}
use Rattle.std.proofs.lemmas.List.{length-map}
use Rattle.std.proofs.lemmas.List.Elements.{All-nil, All-cons, All-push, All-map, All-filter}
use Rattle.std.proofs.lemmas.List.Elements.{All-weaker}
use Rattle.std.proofs.lemmas.Map.Text.{is_eq-slice_cmp}
use Rattle.sz_cells.specs.Extent.{Extent, is_extent}
use Rattle.sz_spec.specs.declared.flow.Node.{Node}
use Rattle.sz_spec.specs.declared.flow.SourceRef.{SourceRef}
use Rattle.sz_spec.specs.declared.flow.SourceRef.TheVariants as source
use Rattle.sz_spec.specs.declared.modes.Strategy.{Strategy}
use Rattle.sz_spec.specs.declared.shapes.ShapeFault.{ShapeFault}
use Rattle.sz_spec.specs.Flows.{Graph, is_source, is_well_formed, flow_fault}
use Rattle.sz_spec.specs.FlowShapes.{source_shape, node_inputs, with_node, output_shapes}
use Rattle.sz_spec.specs.LawsFlows.{IsRightNode}
use Rattle.sz_spec.specs.LawsShapes.{AreExtents}
use Rattle.sz_spec.specs.Shapes.{Site, arity, shape_of, output_extent}
use Rattle.sz_spec.specs.Values.{Grid, no_extent}
use Rattle.sz_spec.proofs.FlowOutputs.{well-formed_parts}
use Rattle.sz_spec.proofs.FlowShapes.{node-made, each-at}
use Rattle.sz_spec.proofs.OutputShapes.{extent-right, output-right}
use Rattle.sz_script.specs.Names.{is_name}
use Rattle.sz_script.specs.Reading.{reading}
use Rattle.sz_script.specs.Right.{IsRight}
use Rattle.sz_script.specs.declared.command.Command.{Command}
use Rattle.sz_script.specs.declared.command.Command.TheVariants as command
use Rattle.sz_script.specs.declared.refusal.Refusal.{Refusal}
use Rattle.sz_script.specs.declared.refusal.Refusal.TheVariants as refusal
use Rattle.sz_script.proofs.LawsLines.{are_right}
use Rattle.sz_catalogue.specs.Holdings.{Named, Workflow, Base, Version, Holdings, no_holdings, no_workflow}
use Rattle.sz_catalogue.specs.Holdings.{things_named, thing_numbered, array_version, flow_named, shapes_of}
use Rattle.sz_catalogue.specs.Starts.{workflow_of, outputs_of, first_lists}
use Rattle.sz_catalogue.specs.Rules as rules
use Rattle.sz_catalogue.specs.Rules.{judged}
use Rattle.sz_catalogue.specs.Changes.{accepted, with_array, with_flow, with_strategies, with_list}
use Rattle.sz_catalogue.proofs.Counts.{first-passed}
use Rattle.sz_log.specs.Log.{LogGroup}
use Rattle.sz_bodies.specs.Bodies.{VersionBody}
use Rattle.sz_bodies.specs.Fitting.{sites_of}
use Rattle.sz_recover.specs.Growing.{IsVersionIn}
use Rattle.sz_bodies.specs.Lawful.{IsLawful, version_said}
use Rattle.sz_bodies.specs.Laws.{IsRightSite}
use Rattle.sz_recover.specs.Logs.{Kept, Acts, is_of_kind, held_by}
use Rattle.sz_bodies.specs.Taking.{IsFitting, site_over}
use Rattle.sz_recover.proofs.InLogs.{lawful-version}
use Rattle.sz_recover.proofs.Keyed.{put-found, set-found}
use Rattle.sz_recover.proofs.RightArrays.{HasRightArray, arrays-right}
use Rattle.sz_catalogue.proofs.FlowSites.{nodes-fit}

-- ---- what is held is right

abbrev IsRightExtent : Extent → Type 0
IsRightExtent e = is_extent e ≡ true

abbrev IsRightGrid : Grid → Type 0
IsRightGrid g = IsRightExtent g.extent

abbrev IsRightThing : Named Grid → Type 0
IsRightThing x = IsRightGrid x.thing

pub record IsRightHeld (c : Holdings) : Type 0 where
  pub arrays : All IsRightThing c.arrays
  pub flows : (name : List ℕ) (w : Workflow) → flow_named c name ≡ Some w → is_well_formed w.graph ≡ true

pub nothing-right : IsRightHeld no_holdings
nothing-right = record { arrays = All-nil IsRightThing; flows = λ name w found. cc }

-- ---- a command keeps it so

text-same : (a b : List ℕ) → eq_by_cmp (slice_cmp nat_cmp) a b ≡ true → a ≡ b
text-same a b is = same_text a b (sym (sym (is_eq-slice_cmp a b) ∙ is))

there-is : {X : Type 0} (o : Option X) → is_none o ≡ false → is_some o ≡ true
there-is None is = absurd (true≢false is)
there-is (Some x) is = refl

there-workflow : (o : Option Workflow) → is_none o ≡ false → o ≡ Some (unwrap_or o no_workflow)
there-workflow None is = absurd (true≢false is)
there-workflow (Some x) is = refl

array-right : (c : Holdings) (name : List ℕ) (array : Grid) → IsRightHeld c → IsRightGrid array
    → IsRightHeld (with_array c name array)
array-right c name array right own =
    let one : Named Grid = record { name = name; thing = array } in
    record { arrays = All-push IsRightThing c.arrays one right.arrays own; flows = right.flows }

flow-right : (c : Holdings) (name : List ℕ) (flow : Graph) → IsRightHeld c → is_well_formed flow ≡ true
    → IsRightHeld (with_flow c name flow)
flow-right c name flow right own =
    let one : Workflow = record { graph = flow; lists = first_lists flow } in
    record {
      arrays = right.arrays;
      flows = λ other w found.
          ⊎_elim (λ here. subst (λ (x : Workflow). is_well_formed x.graph ≡ true) (sym here.1) own)
          (λ before. right.flows other w before)
          (put-found (slice_cmp nat_cmp) nat_list_cmp_total text-same c.flows name other one w found);
    }

strategies-right : (c : Holdings) (name : List ℕ) (node : ℕ) (list : List Strategy) → IsRightHeld c
    → rules.has_no_flow c name ≡ false → IsRightHeld (with_strategies c name node list)
strategies-right c name node list right held =
    let w : Workflow = workflow_of c name in
    let own = right.flows name w (there-workflow (flow_named c name) held) in
    record {
      arrays = right.arrays;
      flows = λ other x found.
          ⊎_elim (λ here. subst (λ (y : Workflow). is_well_formed y.graph ≡ true) (sym here.1) own)
          (λ before. right.flows other x before)
          (set-found (slice_cmp nat_cmp) nat_list_cmp_total text-same c.flows name other (with_list w node list) x
          (there-is (flow_named c name) held) found);
    }

lines-right : (c : Holdings) (kind : ℕ) (order : Command) → is_of_kind kind order ≡ true → IsRightHeld c
    → IsRight order → HasRightArray order → judged c order ≡ None → IsRightHeld (accepted c order).0
lines-right c kind (command.Array name array) of right is own free = array-right c name array right own
lines-right c kind (command.Csv name array) of right is own free = array-right c name array right own
lines-right c kind (command.Layers name array) of right is own free = array-right c name array right own
lines-right c kind (command.Flow name flow) of right is own free =
    flow-right c name flow right (and_parts (list_all is_name (name ∷ [])) (is_none (flow_fault flow)) is).1
lines-right c kind (command.Strategy name node list) of right is own free =
    strategies-right c name node list right
    (first-passed (rules.has_no_flow c name) refusal.NoSuchFlow
    ((rules.has_bad_strategies c name node list, refusal.BadStrategies) ∷ []) free).0
lines-right c kind _ of right is own free = absurd (true≢false (sym of))

-- ---- and so does a group

line-right : (c d : Holdings) (kind : ℕ) (line : List ℕ) (r : Result Command Refusal) → reading line ≡ r
    → IsRightHeld c → held_by c kind r ≡ Some d → IsRightHeld d
line-right c d kind line (Err rule) read right held = cc
line-right c d kind line (Ok x) read right held =
    by (is_of_kind kind x) refl (judged c x) refl held where
      by : (b : Bool) → is_of_kind kind x ≡ b → (o : Option Refusal) → judged c x ≡ o
          → (if b && is_none o then Some (accepted c x).0 else None) ≡ Some d → IsRightHeld d
      by false of o is here = cc
      by true of (Some rule) is here = cc
      by true of None is here =
          let same : (accepted c x).0 ≡ d = cc in
          subst IsRightHeld same (lines-right c kind x of right (are_right line x read) (arrays-right line x read) is)

pub acts-right : (m n : ℕ) (c d : Holdings) (e : LogGroup) (kept : List Kept) → IsRightHeld c → Acts m c e n d kept
    → IsRightHeld d
acts-right m n c d e kept right (to, inl line) =
    line-right c d e.kind e.body (reading e.body) refl right line.held
acts-right m n c d e kept right (to, inr (inl v)) =
    subst IsRightHeld (sym v.held) (record { arrays = right.arrays; flows = right.flows })
acts-right m n c d e kept right (to, inr (inr u)) = subst IsRightHeld (sym u.held) right

-- ---- what is held under a name is right

numbered-right : {X : Type 0} (P : X → Type 0) (n : ℕ) (xs : List X) (x : X) → All P xs
    → thing_numbered n xs ≡ Some x → P x
numbered-right {X} P n xs x all is = by (nat_lt 0 n) is where
  by : (b : Bool) → (if b then slice_get xs (n - 1) else None) ≡ Some x → P x
  by true here = each-at P xs (n - 1) x all here
  by false here = cc

array-found : (c : Holdings) (name : List ℕ) (n : ℕ) (g : Grid) → IsRightHeld c → array_version c name n ≡ Some g
    → IsRightGrid g
array-found c name n g right is =
    numbered-right IsRightGrid n (things_named name c.arrays) g
    (All-map IsRightGrid (λ (x : Named Grid). x.thing) (filter (λ (x : Named Grid). bytes_eq name x.name) c.arrays)
    (All-filter (λ (x : Named Grid). bytes_eq name x.name) IsRightThing c.arrays right.arrays)) is

flow-found : (c : Holdings) (name : List ℕ) (g : Graph) → IsRightHeld c
    → option_map (λ (w : Workflow). w.graph) (flow_named c name) ≡ Some g → is_well_formed g ≡ true
flow-found c name g right is = by (flow_named c name) refl is where
  by : (o : Option Workflow) → flow_named c name ≡ o → option_map (λ (w : Workflow). w.graph) o ≡ Some g
      → is_well_formed g ≡ true
  by None found here = cc
  by (Some w) found here =
      let same : w.graph ≡ g = cc in
      subst (λ (x : Graph). is_well_formed x ≡ true) same (right.flows name w found)

-- ---- shapes within the limits

source-right : (base outputs : List Extent) (inputs n : ℕ) (s : SourceRef) → AreExtents base → AreExtents outputs
    → inputs ≤ length base → n ≤ length outputs → is_source inputs n s ≡ true
    → IsRightExtent (source_shape base outputs s)
source-right base outputs inputs n (source.Input i) first second many few right =
    let inside : i < inputs = ltb-true i inputs right in extent-right base i first (omega arith)
source-right base outputs inputs n (source.Node m) first second many few right =
    let inside : m < n = ltb-true m n right in extent-right outputs m second (omega arith)

sources-right : (base outputs : List Extent) (inputs n : ℕ) (from : List SourceRef) → AreExtents base
    → AreExtents outputs → inputs ≤ length base → n ≤ length outputs
    → All (λ s. is_source inputs n s ≡ true) from → AreExtents (map (source_shape base outputs) from)
sources-right base outputs inputs n from first second many few right =
    All-map IsRightExtent (source_shape base outputs) from
    (All-weaker (λ s. is_source inputs n s ≡ true) (λ s. IsRightExtent (source_shape base outputs s))
    (λ s is. source-right base outputs inputs n s first second many few is) from right)

-- the shapes that nodes give behind right ones are right
limits-from : (base outputs : List Extent) (nodes : List Node) (shapes : List Extent) (inputs : ℕ)
    → AreExtents base → AreExtents outputs → inputs ≤ length base
    → ((k : ℕ) (x : Node) → slice_get nodes k ≡ Some x → IsRightNode inputs (length outputs + k) x)
    → fold (with_node base) (Ok outputs) nodes ≡ Ok shapes → AreExtents shapes
limits-from base outputs [] shapes inputs first second many right h =
    let same : outputs ≡ shapes = cc in subst (λ (es : List Extent). AreExtents es) same second
limits-from base outputs (x ∷ nodes) shapes inputs first second many right h =
    let made = node-made base outputs x nodes shapes h in
    let here : IsRightNode inputs (length outputs + 0) x = right zero x refl in
    let ins = node_inputs base outputs x in
    let site : Site = record { op = x.op; ins = ins; out = made.0 } in
    let long : length ins ≡ arity x.op = length-map x.from (source_shape base outputs) ∙ here.0 in
    let own : IsRightExtent made.0 =
    output-right site (record { arity = long; parameters = here.2; shape = made.1 })
    (sources-right base outputs inputs (length outputs + 0) x.from first second many (omega arith) here.1) in
    let more : length (outputs ++ made.0 ∷ []) ≡ length outputs + 1 = length-append outputs (made.0 ∷ []) in
    let later : (k : ℕ) (y : Node) → slice_get nodes k ≡ Some y
    → IsRightNode inputs (length (outputs ++ made.0 ∷ []) + k) y =
    λ k y there.
    let next : length outputs + suc k ≡ length (outputs ++ made.0 ∷ []) + k = omega (arith, more) in
    subst (λ (m : ℕ). IsRightNode inputs m y) next (right (suc k) y there) in
    limits-from base (outputs ++ made.0 ∷ []) nodes shapes inputs first
    (All-push IsRightExtent outputs made.0 second own) many later made.2

outputs-right : (g : Graph) (base outs : List Extent) → is_well_formed g ≡ true → length base ≡ g.inputs
    → AreExtents base → output_shapes g base ≡ Ok outs → AreExtents outs
outputs-right g base outs well count right fits =
    let each : (k : ℕ) (x : Node) → slice_get g.nodes k ≡ Some x → IsRightNode g.inputs (0 + k) x =
    λ k x there.
    let number : k ≡ 0 + k = omega arith in
    subst (λ (m : ℕ). IsRightNode g.inputs m x) number ((well-formed_parts g well).3 k x there) in
    limits-from base [] g.nodes outs g.inputs right (All-nil IsRightExtent) (omega (arith, count)) each fits

-- an operator between right shapes works at right shapes
site-right : (base outs : List Extent) (x : Node) → AreExtents base → AreExtents outs → IsFitting base outs x
    → IsRightSite (site_over base outs x)
site-right base outs x first second fit =
    let ins = node_inputs base outs x in
    let out = output_extent x.op ins in
    let right : AreExtents ins =
    sources-right base outs (length base) (length outs) x.from first second (omega arith) (omega arith) fit.sources in
    let ok : Result Extent ShapeFault → Result Extent ShapeFault = λ r. Ok (result_unwrap_or r no_extent) in
    let shape : shape_of x.op ins ≡ ok (shape_of x.op ins) = fit.shape.1 ∙ ap ok (sym fit.shape.1) in
    let long : length ins ≡ arity x.op = length-map x.from (source_shape base outs) ∙ fit.arity in
    let site : Site = record { op = x.op; ins = ins; out = out } in
    All-cons IsRightExtent out ins
    (output-right site (record { arity = long; parameters = fit.parameters; shape = shape }) right) right

-- ---- the operators of a version work at right shapes

ok-of : (r : Result (List Extent) ℕ) → result_err r ≡ None → r ≡ Ok (result_unwrap_or r [])
ok-of (Ok es) is = refl
ok-of (Err n) is = cc

pub sites-right : (c : Holdings) (n : ℕ) (v : Version) → IsRightHeld c → IsVersionIn c n v
    → All IsRightSite (sites_of v)
sites-right c n v right own =
    let base = shapes_of v.base in
    let outs = outputs_of v in
    let well = flow-found c v.flow_name v.flow right own.flow in
    let count : length base ≡ v.flow.inputs = length-map v.base (λ (b : Base). b.array.extent) ∙ own.count in
    let fits : output_shapes v.flow base ≡ Ok outs = ok-of (output_shapes v.flow base) own.fits in
    let first : AreExtents base =
    All-map IsRightExtent (λ (b : Base). b.array.extent) v.base
    (All-weaker (λ (b : Base). array_version c b.name b.version ≡ Some b.array) (λ (b : Base). IsRightGrid b.array)
    (λ b held. array-found c b.name b.version b.array right held) v.base own.base) in
    let second = outputs-right v.flow base outs well count first fits in
    All-map IsRightSite (site_over base outs) v.flow.nodes
    (All-weaker (IsFitting base outs) (λ (x : Node). IsRightSite (site_over base outs x))
    (λ x fit. site-right base outs x first second fit) v.flow.nodes (nodes-fit v.flow base outs well count fits))

-- ---- those of a version that a lawful body says

pub lawful-right : (format : ℕ) (c : Holdings) (b : VersionBody) (bytes : List ℕ) → IsRightHeld c
    → IsLawful format c b bytes → All IsRightSite (sites_of (version_said c b))
lawful-right format c b bytes right is =
    sites-right c b.number (version_said c b) right (lawful-version format c b bytes is)

-- What follows of what a flow's values depend on.
--
-- The key idea: go down from a node to its sources. A cell's value depends on the cells to which its node's step
-- leads; each of these is a cell of a base array, where the path ends, or of an earlier node's output, from which
-- the paths go on.
use Rattle.std.proofs.Common.{◌≡◌, ℕ, zero, suc, ◌+◌, ◌<◌, ◌≤◌, Bool, true, false, List, [], ◌∷◌, ◌++◌, map, length}
use Rattle.std.proofs.Common.{All, Option, Some, None, Ok, Err, Result, refl, sym, ap, ap₂, subst, ◌∙◌, arith, inl, inr}
use Rattle.std.proofs.Common.{◌⊎◌, ◌&&◌, ◌||◌, nat_le, nat_lt, unwrap_or, fold, length-append, ltb-true, lt-ltb}
use Rattle.std.proofs.Common.{eq-eqb, eqb-true, le-leb}
use Rattle.std.specs.Prelude.{is_ok, option_and_then}
use Rattle.std.specs.Result.{result_unwrap_or}
use Rattle.std.specs.List.{slice_get, list_any}
use Rattle.std.proofs.lemmas.Bool.{and_parts, and_from, or_cases, or_left}
use Rattle.std.proofs.lemmas.List.{length-map}
use Rattle.std.proofs.lemmas.List.Elements.{All-cons, All-head, All-nil, All-push, All-tail}
use Rattle.sz_cells.specs.declared.Cell.{Cell}
use Rattle.sz_cells.specs.Extent.{Extent, holds, is_extent}
use Rattle.sz_cells.specs.Cells.{is_same}
use Rattle.sz_cells.proofs.Sets.{is_same-refl}
use Rattle.sz_spec.specs.declared.op.Op.{Op}
use Rattle.sz_spec.specs.declared.op.Op.TheVariants.{Lookup}
use Rattle.sz_spec.specs.declared.flow.Node.{Node}
use Rattle.sz_spec.specs.declared.flow.SourceRef.{SourceRef}
use Rattle.sz_spec.specs.declared.flow.SourceRef.TheVariants as source
use Rattle.sz_spec.specs.declared.modes.Dir.TheVariants.{Back}
use Rattle.sz_spec.specs.Values.{Grid, no_grid, no_extent, value_at, input_at, extent_at, extents_of}
use Rattle.sz_spec.specs.Shapes.{Site, arity, shape_of}
use Rattle.sz_spec.specs.Lineage.{related}
use Rattle.sz_spec.specs.Evaluation.{output_of, value_of}
use Rattle.sz_spec.specs.Flows.{Graph, is_source, is_well_formed, array_of, evaluations}
use Rattle.sz_spec.specs.FlowShapes.{source_shape, node_inputs, with_node, output_shapes}
use Rattle.sz_spec.specs.Paths.{Step, source_of, is_there, is_output_of, follows, are_joined, is_joined, inputs_of}
use Rattle.sz_spec.specs.Paths.{extent_of}
use Rattle.sz_spec.specs.LawsShapes.{AreExtents}
use Rattle.sz_spec.specs.LawsFlows.{IsRightNode}
use Rattle.sz_spec.specs.LawsDependence.{AgreeWhere, is_regions, StepLeads, LeadsAlong, CanRun, BeginsAt, EndsIn}
use Rattle.sz_spec.specs.LawsDependence.{LeadsInEither, ValuesDependOnReachedCells}
use Rattle.sz_spec.specs.LawsDependence.{ValuesDependOnCellsReachedInEither}
use Rattle.sz_spec.specs.Work.{IsAtWork}
use Rattle.sz_spec.proofs.Chains.{composed-led, inputs-at, rest-joined}
use Rattle.sz_spec.proofs.Dependence.{value-depends, value-depends_either}
use Rattle.sz_spec.proofs.FlowOutputs.{well-formed_parts, evaluations-at, evaluations-length}
use Rattle.sz_spec.proofs.FlowShapes.{inputs-shapes, shapes-found, node-made, shape-at, below, each-at}
use Rattle.sz_spec.proofs.FlowShapes.{node-of, outputs-length}
use Rattle.sz_spec.proofs.OutputShapes.{extent-right, output-right}
use Rattle.sz_spec.proofs.OutputValues.{output-value}
use Rattle.sz_spec.proofs.PayloadLineage.{extent-of_input}

-- ---- shapes within the limits

-- a source has a right shape
source-right : (base outputs : List Extent) (inputs n : ℕ) (s : SourceRef) → AreExtents base → AreExtents outputs
    → inputs ≤ length base → n ≤ length outputs → is_source inputs n s ≡ true
    → is_extent (source_shape base outputs s) ≡ true
source-right base outputs inputs n (source.Input i) first second many few right =
    let inside : i < inputs = ltb-true i inputs right in extent-right base i first (omega arith)
source-right base outputs inputs n (source.Node m) first second many few right =
    let inside : m < n = ltb-true m n right in extent-right outputs m second (omega arith)

-- and so have all sources of a node
sources-right : (base outputs : List Extent) (inputs n : ℕ) (from : List SourceRef) → AreExtents base
    → AreExtents outputs → inputs ≤ length base → n ≤ length outputs
    → All (λ s. is_source inputs n s ≡ true) from → AreExtents (map (source_shape base outputs) from)
sources-right base outputs inputs n [] first second many few right = All-nil (λ e. is_extent e ≡ true)
sources-right base outputs inputs n (s ∷ from) first second many few right =
    let test : SourceRef → Type 0 = λ t. is_source inputs n t ≡ true in
    All-cons (λ e. is_extent e ≡ true) (source_shape base outputs s) (map (source_shape base outputs) from)
    (source-right base outputs inputs n s first second many few (All-head test s from right))
    (sources-right base outputs inputs n from first second many few (All-tail test s from right))

-- the output of a right node over right shapes has a right shape
made-right : (base outputs : List Extent) (inputs n : ℕ) (x : Node) (e : Extent) → AreExtents base
    → AreExtents outputs → inputs ≤ length base → n ≤ length outputs → IsRightNode inputs n x
    → shape_of x.op (node_inputs base outputs x) ≡ Ok e → is_extent e ≡ true
made-right base outputs inputs n x e first second many few right told =
    let ins = node_inputs base outputs x in
    let site : Site = record { op = x.op; ins = ins; out = e } in
    let long : length ins ≡ arity x.op = length-map x.from (source_shape base outputs) ∙ right.0 in
    output-right site (record { arity = long; parameters = right.2; shape = told })
    (sources-right base outputs inputs n x.from first second many few right.1)

limits-from : (base outputs : List Extent) (nodes : List Node) (shapes : List Extent) (inputs : ℕ)
    → AreExtents base → AreExtents outputs → inputs ≤ length base
    → ((k : ℕ) (x : Node) → slice_get nodes k ≡ Some x → IsRightNode inputs (length outputs + k) x)
    → fold (with_node base) (Ok outputs) nodes ≡ Ok shapes → AreExtents shapes
limits-from base outputs [] shapes inputs first second many right h =
    let same : outputs ≡ shapes = (cc) in subst (λ (es : List Extent). AreExtents es) same second
limits-from base outputs (x ∷ nodes) shapes inputs first second many right h =
    let made = node-made base outputs x nodes shapes h in
    let here : IsRightNode inputs (length outputs + 0) x = right zero x refl in
    let e-right = made-right base outputs inputs (length outputs + 0) x made.0 first second many (omega arith) here
    made.1 in
    let more : length (outputs ++ made.0 ∷ []) ≡ length outputs + 1 = length-append outputs (made.0 ∷ []) in
    let later : (k : ℕ) (y : Node) → slice_get nodes k ≡ Some y
    → IsRightNode inputs (length (outputs ++ made.0 ∷ []) + k) y =
    λ k y there.
    let next : length outputs + suc k ≡ length (outputs ++ made.0 ∷ []) + k = omega (arith, more) in
    subst (λ (m : ℕ). IsRightNode inputs m y) next (right (suc k) y there) in
    limits-from base (outputs ++ made.0 ∷ []) nodes shapes inputs first
    (All-push (λ e. is_extent e ≡ true) outputs made.0 second e-right) many later made.2

-- ---- runs

-- a flow with its shapes: those of base arrays that it can be run over, and those of its outputs
pub record Fits (flow : Graph) (shapes outs : List Extent) : Type 0 where
  pub right : is_well_formed flow ≡ true
  pub count : length shapes ≡ flow.inputs
  pub limits : AreExtents shapes
  pub limits_out : AreExtents outs
  pub fits : output_shapes flow shapes ≡ Ok outs

given : (r : Result (List Extent) ℕ) → is_ok r ≡ true → (es : List Extent) × (r ≡ Ok es)
given (Ok es) h = (es, refl)
given (Err n) h = (cc)

pub fits-of : (flow : Graph) (base : List Grid) → CanRun flow base
    → Fits flow (extents_of base) (extents_of (evaluations flow base))
fits-of flow base run =
    let told = given (output_shapes flow (extents_of base)) run.fits in
    let found = shapes-found flow base told.0 told.1 in
    let count : length (extents_of base) ≡ flow.inputs = length-map base (λ (g : Grid). g.extent) ∙ run.count in
    let numbered : (k : ℕ) (x : Node) → slice_get flow.nodes k ≡ Some x → IsRightNode flow.inputs (0 + k) x =
    λ k x there.
    let number : k ≡ 0 + k = omega arith in
    subst (λ (m : ℕ). IsRightNode flow.inputs m x) number ((well-formed_parts flow run.right).3 k x there) in
    let limits = limits-from (extents_of base) [] flow.nodes told.0 flow.inputs run.limits
    (All-nil (λ e. is_extent e ≡ true)) (omega (arith, count)) numbered told.1 in
    record {
      right = run.right;
      count = count;
      limits = run.limits;
      limits_out = subst (λ (es : List Extent). AreExtents es) (sym found) limits;
      fits = told.1 ∙ ap (λ (es : List Extent). Ok es) (sym found);
    }

-- a node at its shapes
abbrev pub site : List Extent → List Extent → ℕ → Node → Site
site shapes outs n x = record { op = x.op; ins = node_inputs shapes outs x; out = extent_at outs n }

-- each node is at work over the arrays that it takes
pub at-work : (flow : Graph) (shapes outs : List Extent) (base outputs : List Grid) (n : ℕ) (x : Node)
    → Fits flow shapes outs → extents_of base ≡ shapes → extents_of outputs ≡ outs
    → slice_get flow.nodes n ≡ Some x
    → IsAtWork (site shapes outs n x) (map (array_of base outputs) x.from)
at-work flow shapes outs base outputs n x fit first second there =
    let right = (well-formed_parts flow fit.right).3 n x there in
    let count = outputs-length flow shapes outs fit.fits in
    let long : length (node_inputs shapes outs x) ≡ arity x.op =
    length-map x.from (source_shape shapes outs) ∙ right.0 in
    record {
      site = record {
        arity = long;
        parameters = right.2;
        shape = shape-at flow shapes outs n x fit.right fit.fits there;
      };
      shapes = inputs-shapes base outputs x.from
          ∙ ap₂ (λ (a b : List Extent). map (source_shape a b) x.from) first second;
      right = sources-right shapes outs flow.inputs n x.from fit.limits fit.limits_out (omega (arith, fit.count))
          (omega (arith, count, below flow.nodes n x there)) right.1;
    }

-- ---- what a node's output holds

pub output-there : (flow : Graph) (base : List Grid) (n : ℕ) (x : Node) → is_well_formed flow ≡ true
    → slice_get flow.nodes n ≡ Some x
    → input_at (evaluations flow base) n ≡ output_of x.op (map (array_of base (evaluations flow base)) x.from)
output-there flow base n x right there =
    ap (λ (o : Option Grid). unwrap_or o no_grid) (evaluations-at flow base n x right there)

pub node-value : (flow : Graph) (base : List Grid) (n : ℕ) (x : Node) (o : Cell) → is_well_formed flow ≡ true
    → slice_get flow.nodes n ≡ Some x → holds (input_at (evaluations flow base) n).extent o ≡ true
    → value_at (input_at (evaluations flow base) n) o
    ≡ value_of x.op (map (array_of base (evaluations flow base)) x.from) o
node-value flow base n x o right there held =
    let inputs : List Grid = map (array_of base (evaluations flow base)) x.from in
    let same = output-there flow base n x right there in
    ap (λ (g : Grid). value_at g o) same
    ∙ output-value x.op inputs o (ap (λ (g : Grid). holds g.extent o) (sym same) ∙ held)

-- a node whose output holds a cell is there
node-or_beyond : (nodes : List Node) (n : ℕ) → ((x : Node) × (slice_get nodes n ≡ Some x)) ⊎ (length nodes ≤ n)
node-or_beyond [] n = inr (omega arith)
node-or_beyond (x ∷ nodes) zero = inl (x, refl)
node-or_beyond (x ∷ nodes) (suc n) =
    elim (node-or_beyond nodes n) [ inl there ↦ inl there | inr past ↦ inr (omega (arith, past)) ]

beyond : (outputs : List Grid) (n : ℕ) → length outputs ≤ n → slice_get outputs n ≡ None
beyond [] n past = refl
beyond (g ∷ outputs) zero past = absurd (omega arith)
beyond (g ∷ outputs) (suc n) past = beyond outputs n (omega arith)

pub node-held : (flow : Graph) (base : List Grid) (n : ℕ) (o : Cell)
    → holds (extent_of (evaluations flow base) n) o ≡ true → (x : Node) × (slice_get flow.nodes n ≡ Some x)
node-held flow base n o held =
    elim (node-or_beyond flow.nodes n) [
      | inl there ↦ there
      | inr past ↦
          let none = beyond (evaluations flow base) n (omega (arith, past, evaluations-length flow base)) in
          let empty : holds no_extent o ≡ true =
          sym (ap (λ (g : Option Grid). holds (unwrap_or g no_grid).extent o) none) ∙ held in
          let row = ltb-true o.row 0 (and_parts (nat_lt o.row 0) (nat_lt o.col 0) empty).0 in
          absurd (omega (arith, row))
    ]

-- ---- a node and the cells that its steps lead to

-- the arrays that a node takes when the flow is evaluated
abbrev pub taken : Graph → List Grid → ℕ → List Grid
taken flow base n = inputs_of flow base (evaluations flow base) n

abbrev pub step : ℕ → ℕ → Step
step n i = record { node = n; input = i }

-- at each node, where the values are one at the cells to which its steps lead from a cell, that has one value
abbrev pub Local : (Step → Cell → Cell → Type 0) → (Node → Type 0) → Graph → List Grid → List Grid → Type 0
Local leads fine flow old new = (n : ℕ) (x : Node) (o : Cell) → slice_get flow.nodes n ≡ Some x → fine x
    → holds (extent_of (evaluations flow old) n) o ≡ true
    → ((i : ℕ) (y : Cell) → i < length x.from → holds (extent_of (taken flow old n) i) y ≡ true
    → leads (step n i) o y
    → value_at (input_at (taken flow old n) i) y ≡ value_at (input_at (taken flow new n) i) y)
    → value_at (input_at (evaluations flow old) n) o ≡ value_at (input_at (evaluations flow new) n) o

-- the shape of an array that a node takes
pub taken-extent : (flow : Graph) (base : List Grid) (ins : List Extent) (n i : ℕ) (x : Node)
    → slice_get flow.nodes n ≡ Some x
    → extents_of (map (array_of base (evaluations flow base)) x.from) ≡ ins
    → extent_of (taken flow base n) i ≡ extent_at ins i
taken-extent flow base ins n i x there shapes =
    let arrays : List Grid = map (array_of base (evaluations flow base)) x.from in
    ap (λ (gs : List Grid). extent_of gs i) (inputs-at flow base (evaluations flow base) n x there)
    ∙ sym (extent-of_input arrays i)
    ∙ ap (λ (es : List Extent). extent_at es i) shapes

-- a step leads to a related cell
leads-to : (flow : Graph) (base : List Grid) (ins : List Extent) (n i : ℕ) (x : Node) (o y : Cell)
    → slice_get flow.nodes n ≡ Some x
    → extents_of (map (array_of base (evaluations flow base)) x.from) ≡ ins
    → holds (extent_at ins i) y ≡ true
    → related x.op (map (array_of base (evaluations flow base)) x.from) i o y ≡ true
    → StepLeads Back flow base (evaluations flow base) (step n i) o y
leads-to flow base ins n i x o y there shapes held passes = (
  x,
  there,
  ap (λ (e : Extent). holds e y) (taken-extent flow base ins n i x there shapes) ∙ held,
  ap (λ (gs : List Grid). related x.op gs i o y) (inputs-at flow base (evaluations flow base) n x there) ∙ passes,
)

-- the shapes of the outputs are those of the other run
outs-same : (flow : Graph) (old new : List Grid) → CanRun flow old → CanRun flow new
    → extents_of old ≡ extents_of new → extents_of (evaluations flow new) ≡ extents_of (evaluations flow old)
outs-same flow old new first second same =
    ap (λ (r : Result (List Extent) ℕ). result_unwrap_or r [])
    (sym (fits-of flow new second).fits ∙ ap (output_shapes flow) (sym same) ∙ (fits-of flow old first).fits)

-- what is known of a node in both runs
pub record Both (flow : Graph) (old new : List Grid) (n : ℕ) (x : Node) (s : Site) : Type 0 where
  pub op : s.op ≡ x.op
  pub arity : length s.ins ≡ length x.from
  pub out : s.out ≡ (input_at (evaluations flow old) n).extent
  pub out_new : s.out ≡ (input_at (evaluations flow new) n).extent
  pub work : IsAtWork s (map (array_of old (evaluations flow old)) x.from)
  pub work_new : IsAtWork s (map (array_of new (evaluations flow new)) x.from)

pub both-runs : (flow : Graph) (old new : List Grid) (n : ℕ) (x : Node) → CanRun flow old → CanRun flow new
    → extents_of old ≡ extents_of new → slice_get flow.nodes n ≡ Some x
    → Both flow old new n x (site (extents_of old) (extents_of (evaluations flow old)) n x)
both-runs flow old new n x first second same there =
    let fit = fits-of flow old first in
    let shapes = extents_of old in
    let outs = extents_of (evaluations flow old) in
    let alike = outs-same flow old new first second same in
    record {
      op = refl;
      arity = length-map x.from (source_shape shapes outs);
      out = extent-of_input (evaluations flow old) n;
      out_new = ap (λ (es : List Extent). extent_at es n) (sym alike) ∙ extent-of_input (evaluations flow new) n;
      work = at-work flow shapes outs old (evaluations flow old) n x fit refl refl there;
      work_new = at-work flow shapes outs new (evaluations flow new) n x fit (sym same) alike there;
    }

-- where the steps lead to each cell that a test picks, the arrays that the node takes agree on these
pub agree-where : (leads : Step → Cell → Cell → Type 0) (test : ℕ → Cell → Bool) (flow : Graph) (old new : List Grid)
    (n : ℕ) (x : Node) (s : Site) (o : Cell) → slice_get flow.nodes n ≡ Some x → Both flow old new n x s
    → ((i : ℕ) (y : Cell) → holds (extent_at s.ins i) y ≡ true → test i y ≡ true → leads (step n i) o y)
    → ((i : ℕ) (y : Cell) → i < length x.from → holds (extent_of (taken flow old n) i) y ≡ true
    → leads (step n i) o y
    → value_at (input_at (taken flow old n) i) y ≡ value_at (input_at (taken flow new n) i) y)
    → AgreeWhere s test (map (array_of old (evaluations flow old)) x.from)
    (map (array_of new (evaluations flow new)) x.from)
agree-where leads test flow old new n x s o there both lead agrees i y inside held passes =
    sym (ap (λ (gs : List Grid). value_at (input_at gs i) y) (inputs-at flow old (evaluations flow old) n x there))
    ∙ agrees i y (omega (arith, both.arity))
    (ap (λ (e : Extent). holds e y) (taken-extent flow old s.ins n i x there (both.work).shapes) ∙ held)
    (lead i y held passes)
    ∙ ap (λ (gs : List Grid). value_at (input_at gs i) y) (inputs-at flow new (evaluations flow new) n x there)

-- a value of the operator is one of the output
pub local-value : (flow : Graph) (old new : List Grid) (n : ℕ) (x : Node) (s : Site) (o : Cell)
    → is_well_formed flow ≡ true → slice_get flow.nodes n ≡ Some x → Both flow old new n x s
    → holds (extent_of (evaluations flow old) n) o ≡ true
    → (holds s.out o ≡ true → value_of s.op (map (array_of old (evaluations flow old)) x.from) o
    ≡ value_of s.op (map (array_of new (evaluations flow new)) x.from) o)
    → value_at (input_at (evaluations flow old) n) o ≡ value_at (input_at (evaluations flow new) n) o
local-value flow old new n x s o right there both held same =
    let arrays : List Grid → List Grid = λ base. map (array_of base (evaluations flow base)) x.from in
    let at_site : holds s.out o ≡ true = ap (λ (e : Extent). holds e o) both.out ∙ held in
    let held_new : holds (input_at (evaluations flow new) n).extent o ≡ true =
    sym (ap (λ (e : Extent). holds e o) both.out_new) ∙ at_site in
    node-value flow old n x o right there held
    ∙ ap (λ (p : Op). value_of p (arrays old) o) (sym both.op)
    ∙ same at_site
    ∙ ap (λ (p : Op). value_of p (arrays new) o) both.op
    ∙ sym (node-value flow new n x o right there held_new)

-- an operator that is not regions reads the cells to which the old evaluation leads
local-old : (flow : Graph) (old new : List Grid) → CanRun flow old → CanRun flow new
    → extents_of old ≡ extents_of new
    → Local (StepLeads Back flow old (evaluations flow old)) (λ x. is_regions x.op ≡ false) flow old new
local-old flow old new first second same n x o there fine held agrees =
    let s = site (extents_of old) (extents_of (evaluations flow old)) n x in
    let both = both-runs flow old new n x first second same there in
    let arrays : List Grid = map (array_of old (evaluations flow old)) x.from in
    local-value flow old new n x s o first.right there both held
    (λ at_site. value-depends s arrays (map (array_of new (evaluations flow new)) x.from) o both.work both.work_new
    at_site fine
    (agree-where (StepLeads Back flow old (evaluations flow old)) (λ i y. related x.op arrays i o y) flow old new n x s
    o there both
    (λ i y there_y passes. leads-to flow old s.ins n i x o y there (both.work).shapes there_y passes) agrees))

-- each reads the cells to which one of the two leads
local-either : (flow : Graph) (old new : List Grid) → CanRun flow old → CanRun flow new
    → extents_of old ≡ extents_of new → Local (LeadsInEither flow old new) (λ x. x ≡ x) flow old new
local-either flow old new first second same n x o there any held agrees =
    let s = site (extents_of old) (extents_of (evaluations flow old)) n x in
    let both = both-runs flow old new n x first second same there in
    let a : List Grid = map (array_of old (evaluations flow old)) x.from in
    let b : List Grid = map (array_of new (evaluations flow new)) x.from in
    local-value flow old new n x s o first.right there both held
    (λ at_site. value-depends_either s a b o both.work both.work_new at_site
    (agree-where (LeadsInEither flow old new) (λ i y. related x.op a i o y || related x.op b i o y) flow old new n x s
    o there both
    (λ i y there_y passes.
    elim (or_cases (related x.op a i o y) (related x.op b i o y) passes) [
      | inl by_old ↦ inl (leads-to flow old s.ins n i x o y there (both.work).shapes there_y by_old)
      | inr by_new ↦ inr (leads-to flow new s.ins n i x o y there (both.work_new).shapes there_y by_new)
    ]) agrees))

-- ---- going down

-- base arrays agree on what is led to, along each joined path back from a node
abbrev pub Agree : (Step → Cell → Cell → Type 0) → Graph → List Grid → List Grid → ℕ → Cell → Type 0
Agree leads flow old new n o = (path : List Step) (b : ℕ) (cells : List Cell) (x : Cell)
    → are_joined Back flow path ≡ true → BeginsAt n path → EndsIn flow path b
    → LeadsAlong leads path o cells x
    → value_at (input_at old b) x ≡ value_at (input_at new b) x

-- each node that such a path passes is fine
abbrev pub Clear : (Node → Type 0) → Graph → ℕ → Type 0
Clear fine flow n = (path : List Step) → are_joined Back flow path ≡ true → BeginsAt n path
    → All (λ s. (x : Node) → slice_get flow.nodes s.node ≡ Some x → fine x) path

-- the node of a step takes the output of an earlier one, and its step goes before the paths from there
pub joined-on : (flow : Graph) (s t : Step) (path : List Step) → source_of flow s ≡ Some (source.Node t.node)
    → are_joined Back flow (t ∷ path) ≡ true → are_joined Back flow (s ∷ t ∷ path) ≡ true
joined-on flow s t path takes joined =
    and_from (is_there (source_of flow s) && follows Back flow s t) (are_joined Back flow (t ∷ path))
    (and_from (is_there (source_of flow s)) (follows Back flow s t) (ap is_there takes)
    (ap (is_output_of t.node) takes ∙ eq-eqb t.node t.node refl)) joined

clear-on : (fine : Node → Type 0) (flow : Graph) (s : Step) (m : ℕ) → source_of flow s ≡ Some (source.Node m)
    → Clear fine flow s.node → Clear fine flow m
clear-on fine flow s m takes clear [] joined begins = absurd begins
clear-on fine flow s m takes clear (t ∷ path) joined begins =
    let here : source_of flow s ≡ Some (source.Node t.node) =
    takes ∙ ap (λ (k : ℕ). Some (source.Node k)) (sym begins) in
    All-tail (λ r. (x : Node) → slice_get flow.nodes r.node ≡ Some x → fine x) s (t ∷ path)
    (clear (s ∷ t ∷ path) (joined-on flow s t path here joined) refl)

pub agree-on : (leads : Step → Cell → Cell → Type 0) (flow : Graph) (old new : List Grid) (s : Step)
    (m : ℕ) (o y : Cell)
    → source_of flow s ≡ Some (source.Node m) → leads s o y
    → Agree leads flow old new s.node o → Agree leads flow old new m y
agree-on leads flow old new s m o y takes led agree [] b cells x joined begins ends chain = absurd begins
agree-on leads flow old new s m o y takes led agree (t ∷ path) b cells x joined begins ends chain =
    let here : source_of flow s ≡ Some (source.Node t.node) =
    takes ∙ ap (λ (k : ℕ). Some (source.Node k)) (sym begins) in
    agree (s ∷ t ∷ path) b (y ∷ cells) x (joined-on flow s t path here joined) refl ends (led, chain)

-- a source of a list of sources
pub source-there : (from : List SourceRef) (i : ℕ) → i < length from → (s : SourceRef) × (slice_get from i ≡ Some s)
source-there [] i inside = absurd (omega arith)
source-there (s ∷ from) zero inside = (s, refl)
source-there (s ∷ from) (suc i) inside = source-there from i (omega arith)

-- the array of a source
pub array-at : (f : SourceRef → Grid) (from : List SourceRef) (i : ℕ) (s : SourceRef) → slice_get from i ≡ Some s
    → input_at (map f from) i ≡ f s
array-at f [] i s h = (cc)
array-at f (r ∷ from) zero s h = let same : r ≡ s = (cc) in ap f same
array-at f (r ∷ from) (suc i) s h = array-at f from i s h

pub taken-at : (flow : Graph) (base : List Grid) (n i : ℕ) (x : Node) (s : SourceRef) → slice_get flow.nodes n ≡ Some x
    → slice_get x.from i ≡ Some s
    → input_at (taken flow base n) i ≡ array_of base (evaluations flow base) s
taken-at flow base n i x s there takes =
    ap (λ (gs : List Grid). input_at gs i) (inputs-at flow base (evaluations flow base) n x there)
    ∙ array-at (array_of base (evaluations flow base)) x.from i s takes

-- the node of a step that takes the output of a node comes later
pub earlier : (flow : Graph) (s : Step) (x : Node) (m : ℕ) → is_well_formed flow ≡ true
    → slice_get flow.nodes s.node ≡ Some x → slice_get x.from s.input ≡ Some (source.Node m) → m < s.node
earlier flow s x m right there takes =
    ltb-true m s.node
    (each-at (λ (t : SourceRef). is_source flow.inputs s.node t ≡ true) x.from s.input (source.Node m)
    ((well-formed_parts flow right).3 s.node x there).1 takes)

-- one step down: a base array, where the path ends, or an earlier node
down : (leads : Step → Cell → Cell → Type 0) (fine : Node → Type 0) (flow : Graph) (old new : List Grid) (n i : ℕ)
    (x : Node) (o y : Cell) (s : SourceRef) → is_well_formed flow ≡ true
    → slice_get flow.nodes n ≡ Some x → slice_get x.from i ≡ Some s
    → holds (array_of old (evaluations flow old) s).extent y ≡ true → leads (step n i) o y
    → Clear fine flow n → Agree leads flow old new n o
    → ((m : ℕ) (z : Cell) → m < n → holds (extent_of (evaluations flow old) m) z ≡ true → Clear fine flow m
    → Agree leads flow old new m z
    → value_at (input_at (evaluations flow old) m) z ≡ value_at (input_at (evaluations flow new) m) z)
    → value_at (array_of old (evaluations flow old) s) y ≡ value_at (array_of new (evaluations flow new) s) y
down leads fine flow old new n i x o y (source.Input b) right there takes held led clear agree less =
    let ends : source_of flow (step n i) ≡ Some (source.Input b) =
    ap (λ (z : Option Node). option_and_then (λ (w : Node). slice_get w.from i) z) there ∙ takes in
    agree (step n i ∷ []) b (y ∷ []) y (ap is_there ends) refl ends (led, refl)
down leads fine flow old new n i x o y (source.Node m) right there takes held led clear agree less =
    let from : source_of flow (step n i) ≡ Some (source.Node m) =
    ap (λ (z : Option Node). option_and_then (λ (w : Node). slice_get w.from i) z) there ∙ takes in
    less m y (earlier flow (step n i) x m right there takes) held (clear-on fine flow (step n i) m from clear)
    (agree-on leads flow old new (step n i) m o y from led agree)

-- a node takes something
arity-some : (op : Op) → 0 < arity op
arity-some Lookup = omega arith
arity-some _ = omega arith

-- so a node is on a path
fine-here : (fine : Node → Type 0) (flow : Graph) (n : ℕ) (x : Node) → is_well_formed flow ≡ true
    → slice_get flow.nodes n ≡ Some x → Clear fine flow n → fine x
fine-here fine flow n x right there clear =
    let long = ((well-formed_parts flow right).3 n x there).0 in
    let first = source-there x.from 0 (omega (arith, long, arity-some x.op)) in
    let ends : source_of flow (step n 0) ≡ Some first.0 =
    ap (λ (z : Option Node). option_and_then (λ (w : Node). slice_get w.from 0) z) there ∙ first.1 in
    All-head (λ s. (y : Node) → slice_get flow.nodes s.node ≡ Some y → fine y) (step n 0) []
    (clear (step n 0 ∷ []) (ap is_there ends) refl) x there

pub depends : (leads : Step → Cell → Cell → Type 0) (fine : Node → Type 0) (flow : Graph) (old new : List Grid)
    → is_well_formed flow ≡ true → Local leads fine flow old new → (k n : ℕ) (o : Cell) → n < k
    → holds (extent_of (evaluations flow old) n) o ≡ true → Clear fine flow n → Agree leads flow old new n o
    → value_at (input_at (evaluations flow old) n) o ≡ value_at (input_at (evaluations flow new) n) o
depends leads fine flow old new right each zero n o low held clear agree = absurd (omega arith)
depends leads fine flow old new right each (suc k) n o low held clear agree =
    let node = node-held flow old n o held in
    let x = node.0 in
    each n x o node.1 (fine-here fine flow n x right node.1 clear) held
    (λ i y inside there led.
    let src = source-there x.from i inside in
    let a = taken-at flow old n i x src.0 node.1 src.1 in
    let b = taken-at flow new n i x src.0 node.1 src.1 in
    ap (λ (g : Grid). value_at g y) a
    ∙ down leads fine flow old new n i x o y src.0 right node.1 src.1
    (ap (λ (g : Grid). holds g.extent y) (sym a) ∙ there) led clear agree
    (λ m z less there_z clear_m agree_m. depends leads fine flow old new right each k m z (omega (arith, low, less))
    there_z clear_m agree_m)
    ∙ sym (ap (λ (g : Grid). value_at g y) b))

-- ---- paths are short

-- a source that is the output of a node
pub output-of_node : (o : Option SourceRef) (m : ℕ) → is_output_of m o ≡ true → o ≡ Some (source.Node m)
output-of_node None m h = (cc)
output-of_node (Some (source.Input i)) m h = (cc)
output-of_node (Some (source.Node k)) m h = ap (λ (j : ℕ). Some (source.Node j)) (eqb-true k m h)

-- a joined path back from a node has no more steps than there are nodes up to it
path-short : (flow : Graph) (path : List Step) (n : ℕ) → is_well_formed flow ≡ true
    → are_joined Back flow path ≡ true → BeginsAt n path → length path ≤ suc n
path-short flow [] n right joined begins = absurd begins
path-short flow (s ∷ []) n right joined begins = omega arith
path-short flow (s ∷ t ∷ path) n right joined begins =
    let rest = rest-joined Back flow s (t ∷ path) joined in
    let follow = (and_parts (is_there (source_of flow s)) (follows Back flow s t)
    (and_parts (is_there (source_of flow s) && follows Back flow s t) (are_joined Back flow (t ∷ path)) joined).0).1 in
    let takes = output-of_node (source_of flow s) t.node follow in
    let node = node-of (slice_get flow.nodes s.node) s.input (source.Node t.node) takes in
    let less = earlier flow s node.0 t.node right node.1 node.2 in
    omega (arith, path-short flow (t ∷ path) t.node right rest refl, less, begins)

-- so it is a path of 1 to 32 steps
pub path-whole : (flow : Graph) (path : List Step) (n : ℕ) (x : Node) → is_well_formed flow ≡ true
    → slice_get flow.nodes n ≡ Some x
    → are_joined Back flow path ≡ true → BeginsAt n path → is_joined Back flow path ≡ true
path-whole flow [] n x right there joined begins = absurd begins
path-whole flow (s ∷ path) n x right there joined begins =
    let short = path-short flow (s ∷ path) n right joined begins in
    let few = (well-formed_parts flow right).1 in
    and_from (nat_lt 0 (length (s ∷ path)) && nat_le (length (s ∷ path)) 32) (are_joined Back flow (s ∷ path))
    (and_from (nat_lt 0 (length (s ∷ path))) (nat_le (length (s ∷ path)) 32)
    (lt-ltb 0 (length (s ∷ path)) (omega arith))
    (le-leb (length (s ∷ path)) 32 (omega (arith, short, few, below flow.nodes n x there)))) joined

-- ---- the laws

-- a flow that can be run over base arrays can be run over others of the same shapes
pub can-run : (flow : Graph) (old new : List Grid) → CanRun flow old → extents_of old ≡ extents_of new → CanRun flow new
can-run flow old new run same = record {
  right = run.right;
  count = sym (length-map new (λ (g : Grid). g.extent)) ∙ ap length (sym same)
      ∙ length-map old (λ (g : Grid). g.extent) ∙ run.count;
  limits = subst (λ (es : List Extent). AreExtents es) same run.limits;
  fits = ap (λ (es : List Extent). is_ok (output_shapes flow es)) (sym same) ∙ run.fits;
}

-- by the old evaluation
pub value-reached : ValuesDependOnReachedCells
value-reached flow old new n o first same held clear agree =
    let second = can-run flow old new first same in
    let node = node-held flow old n o held in
    let outputs = evaluations flow old in
    depends (StepLeads Back flow old outputs) (λ x. is_regions x.op ≡ false) flow old new first.right
    (local-old flow old new first second same) (suc n) n o (omega arith) held
    (λ path joined begins. clear path (path-whole flow path n node.0 first.right node.1 joined begins) begins)
    (λ path b cells x joined begins ends led.
    agree path b x (path-whole flow path n node.0 first.right node.1 joined begins, begins, ends)
    ((composed-led Back flow old outputs path (extent_of outputs n) (λ c. list_any (is_same c) (o ∷ [])) x joined).1
    (o, held, or_left (is_same o o) false (is_same-refl o), (cells, led))))

-- by the old one or the new one
pub value-reached_in_either : ValuesDependOnCellsReachedInEither
value-reached_in_either flow old new n o first same held agree =
    let second = can-run flow old new first same in
    let node = node-held flow old n o held in
    depends (LeadsInEither flow old new) (λ x. x ≡ x) flow old new first.right
    (local-either flow old new first second same) (suc n) n o (omega arith) held
    (λ path joined begins k d inside x there. refl)
    (λ path b cells x joined begins ends led.
    agree path b cells x (path-whole flow path n node.0 first.right node.1 joined begins, begins, ends) led)

-- The operators of a version that is run again.
--
-- The key idea: the shapes that were found for a version are those of its values, so each operator is executed at the
-- shapes at which the version has it.
use Rattle.std.proofs.Common.{◌≡◌, ℕ, List, map, length, Option, Some, option_map, get_or, refl, sym, ap, ap₂}
use Rattle.std.proofs.Common.{◌∙◌, arith, inl, inr, []}
use Rattle.std.specs.Prelude.{Result, Ok}
use Rattle.std.specs.List.{slice_get}
use Rattle.std.specs.Result.{result_unwrap_or}
use Rattle.std.proofs.lemmas.Simd.{map-map}
use Rattle.std.proofs.lemmas.List.{ext_get_or, length-map}
use Rattle.std.proofs.lemmas.Option.{slice_get-map, slice_get_cases, get_or_from_slice_get}
use Rattle.sz_cells.specs.Extent.{Extent}
use Rattle.sz_spec.specs.declared.flow.Node.{Node}
use Rattle.sz_spec.specs.declared.op.Op.TheVariants.{Add}
use Rattle.sz_spec.specs.Values.{Grid, extents_of}
use Rattle.sz_spec.specs.Shapes.{Site, output_extent}
use Rattle.sz_spec.specs.Flows.{Graph, evaluations, array_of}
use Rattle.sz_spec.specs.FlowShapes.{node_inputs, output_shapes}
use Rattle.sz_spec.specs.Paths.{inputs_of}
use Rattle.sz_spec.proofs.FlowShapes.{shapes-found, inputs-shapes}
use Rattle.sz_flow.specs.Executions.{Execution, execution, FlowFits}
use Rattle.sz_flow.specs.Laws.{EachNodeHasAnExecution, ExecutionsAreThoseOfTheirNodes}
use Rattle.sz_catalogue.specs.Holdings.{Base, Version, arrays_of, shapes_of}
use Rattle.sz_catalogue.specs.Starts.{outputs_of}
use Rattle.sz_catalogue.specs.Kept.{IsRun}
use Rattle.sz_bodies.specs.Fitting.{site_in, sites_of}
use Rattle.sz_recover.specs.Soundness.{executions_of}

base-shapes : (base : List Base) → shapes_of base ≡ extents_of (arrays_of base)
base-shapes base = sym (map-map (λ (g : Grid). g.extent) (λ (b : Base). b.array) base)

-- a version that is held fits its base arrays
shapes-fit : (v : Version) (outputs : List Extent) → IsRun v outputs
    → output_shapes v.flow (extents_of (arrays_of v.base)) ≡ Ok outputs
shapes-fit v outputs run = sym (ap (output_shapes v.flow) (base-shapes v.base)) ∙ run.fits

pub run-fits : (v : Version) (outputs : List Extent) → IsRun v outputs → FlowFits v.flow (arrays_of v.base)
run-fits v outputs run = (outputs, shapes-fit v outputs run)

outputs-shapes : (v : Version) (outputs : List Extent) → IsRun v outputs
    → outputs_of v ≡ extents_of (evaluations v.flow (arrays_of v.base))
outputs-shapes v outputs run =
    ap (λ (r : Result (List Extent) ℕ). result_unwrap_or r []) run.fits
    ∙ sym (shapes-found v.flow (arrays_of v.base) outputs (shapes-fit v outputs run))

-- what a node takes, by its arrays and by its shapes
taken : (flow : Graph) (base outputs : List Grid) (n : ℕ) (x : Node) → slice_get flow.nodes n ≡ Some x
    → inputs_of flow base outputs n ≡ map (array_of base outputs) x.from
taken flow base outputs n x there = rw there refl

site-same : (v : Version) (outputs : List Extent) (n : ℕ) (x : Node) → IsRun v outputs
    → slice_get v.flow.nodes n ≡ Some x
    → (execution x.op (inputs_of v.flow (arrays_of v.base) (evaluations v.flow (arrays_of v.base)) n)).site
    ≡ site_in v x
site-same v outputs n x run there =
    let base = arrays_of v.base in
    let values = evaluations v.flow base in
    let make : List Extent → Site = λ ins. record { op = x.op; ins = ins; out = output_extent x.op ins } in
    let shapes : extents_of (inputs_of v.flow base values n) ≡ node_inputs (shapes_of v.base) (outputs_of v) x =
    ap extents_of (taken v.flow base values n x there)
    ∙ inputs-shapes base values x.from
    ∙ ap₂ (λ (bs os : List Extent). node_inputs bs os x) (sym (base-shapes v.base))
    (sym (outputs-shapes v outputs run)) in
    ap make shapes

-- the site of an execution by its number, and that of the version's node
site-at : ExecutionsAreThoseOfTheirNodes → (v : Version) (outputs : List Extent) (i : ℕ) (x : Node) (d : Site)
    → IsRun v outputs → slice_get v.flow.nodes i ≡ Some x
    → get_or (map (λ (e : Execution). e.site) (executions_of v)) i d ≡ get_or (sites_of v) i d
site-at each v outputs i x d run there =
    let base = arrays_of v.base in
    let e = execution x.op (inputs_of v.flow base (evaluations v.flow base) i) in
    let sites = map (λ (z : Execution). z.site) (executions_of v) in
    let one : slice_get sites i ≡ Some e.site =
    slice_get-map (λ (z : Execution). z.site) (executions_of v) i
    ∙ ap (λ (o : Option Execution). option_map (λ (z : Execution). z.site) o) (each v.flow base i x run.right there) in
    let other : slice_get (sites_of v) i ≡ Some (site_in v x) =
    slice_get-map (site_in v) v.flow.nodes i ∙ ap (λ (o : Option Node). option_map (site_in v) o) there in
    get_or_from_slice_get sites i e.site d one ∙ site-same v outputs i x run there
    ∙ sym (get_or_from_slice_get (sites_of v) i (site_in v x) d other)

-- Each operator of a version is executed at the shapes at which the version has it.
pub sites-same : EachNodeHasAnExecution → ExecutionsAreThoseOfTheirNodes → (v : Version) (outputs : List Extent)
    → IsRun v outputs → map (λ (e : Execution). e.site) (executions_of v) ≡ sites_of v
sites-same count each v outputs run =
    let sites = map (λ (e : Execution). e.site) (executions_of v) in
    let d : Site = record { op = Add; ins = []; out = record { layers = 1; rows = 1; cols = 1 } } in
    let long : length sites ≡ length v.flow.nodes =
    length-map (executions_of v) (λ (e : Execution). e.site) ∙ count v.flow (arrays_of v.base) in
    let same : length sites ≡ length (sites_of v) = long ∙ sym (length-map v.flow.nodes (site_in v)) in
    ext_get_or d sites (sites_of v) same
    (λ i inside.
    elim (slice_get_cases v.flow.nodes i).1 [
      | inl at ↦ site-at each v outputs i at.0 d run at.2
      | inr past ↦ absurd (omega (arith, past.0, long, inside))
    ])

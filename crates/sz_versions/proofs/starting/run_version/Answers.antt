-- What no rule refuses is what a run asks for, and the stores are of what it gives.
use Rattle.std.proofs.Common.{◌≡◌, List, [], length, map, sym, ap, ap₂, ◌∙◌}
use Rattle.std.specs.Prelude.{Result, Ok, Err, IfOk}
use Rattle.std.specs.Arc.{arc_value}
use Rattle.std.proofs.lemmas.List.{length-map}
use Rattle.sz_spec.specs.Values.{Grid}
use Rattle.sz_spec.specs.Flows.{Graph}
use Rattle.sz_flow.specs.Executions.{execution_of, executions}
use Rattle.sz_catalogue.specs.Holdings.{Base, arrays_of}
use Rattle.sz_catalogue.specs.Starts.{bases_of, workflow_of, version_started}
use Rattle.sz_catalogue.proofs.Bases.{bases-length}
use Rattle.sz_versions.specs.Runs.{executions_of}
use Rattle.sz_versions.specs.Stores.{IsTrailOf}
use Rattle.sz_versions.proofs.Steps.{base-shapes}
use Rattle.sz_versions.proofs.Keeps.{can-start, flow-sound, flow-graph, flow-lists}
use Rattle.sz_versions.proofs.Keeping.{lists-listed}
use Rattle.sz_versions.proofs.starting.run_version.Goals as goal

pub run_all-requires-clause-well_formed : goal.run_all-requires-clause-well_formed
run_all-requires-clause-well_formed g c =
    let cat = c.args.catalogue.now in
    let can = can-start cat c.args.name.now c.args.base.now c.requires.judged in
    let graph = c.deref.ensures ∙ flow-graph cat c.args.name.now _ (rw c.in-Some.is at c.flow.ensures) in
    λ κs lives. rw graph (flow-sound cat c.args.name.now c.requires.sound can.flow).right

pub run_all-requires-clause-count : goal.run_all-requires-clause-count
run_all-requires-clause-count g c =
    let cat = c.args.catalogue.now in
    let can = can-start cat c.args.name.now c.args.base.now c.requires.judged in
    let graph = c.deref.ensures ∙ flow-graph cat c.args.name.now _ (rw c.in-Some.is at c.flow.ensures) in
    λ κs lives. ap (λ xs. length xs) c.deref-2.ensures.value
    ∙ sym (length-map c.in_ok-arrays.arrays.items (λ a. arc_value a))
    ∙ ap (λ (gs : List Grid). length gs) c.in_ok-arrays.ensures
    ∙ length-map (bases_of cat c.args.base.now) (λ (b : Base). b.array)
    ∙ bases-length cat c.args.base.now can.arrays ∙ can.count
    ∙ sym (ap (λ (x : Graph). x.inputs) graph)

pub run_all-requires-clause-fits : goal.run_all-requires-clause-fits
run_all-requires-clause-fits g c =
    let cat = c.args.catalogue.now in
    let can = can-start cat c.args.name.now c.args.base.now c.requires.judged in
    let graph = c.deref.ensures ∙ flow-graph cat c.args.name.now _ (rw c.in-Some.is at c.flow.ensures) in
    let arrays = ap (λ xs. map (λ a. arc_value a) xs) c.deref-2.ensures.value ∙ c.in_ok-arrays.ensures in
    λ κs lives. (can.fits.0, rw (graph, arrays, base-shapes (bases_of cat c.args.base.now)) can.fits.1)

-- the executions, and the lists, are those of the version that is started
pub carried-requires : goal.carried-requires
carried-requires g c =
    let cat = c.args.catalogue.now in
    let can = can-start cat c.args.name.now c.args.base.now c.requires.judged in
    let w = workflow_of cat c.args.name.now in
    let graph = c.deref.ensures ∙ flow-graph cat c.args.name.now _ (rw c.in-Some.is at c.flow.ensures) in
    let arrays = ap (λ xs. map (λ a. arc_value a) xs) c.deref-2.ensures.value ∙ c.in_ok-arrays.ensures in
    let lists = flow-lists cat c.args.name.now _ (rw c.in-Some-lists.is at c.lists.ensures) in
    rw (c.as_slice.ensures, lists, c.in_ok-executed.ensures, graph, arrays)
    (lists-listed (arrays_of (bases_of cat c.args.base.now)) [] w.graph.nodes w.lists
    (flow-sound cat c.args.name.now c.requires.sound can.flow).lists)

-- and what is carried is of that version
pub returns : goal.returns
returns g c =
    let cat = c.args.catalogue.now in
    let v = version_started cat c.args.name.now c.args.base.now in
    let graph = c.deref.ensures ∙ flow-graph cat c.args.name.now _ (rw c.in-Some.is at c.flow.ensures) in
    let arrays = ap (λ xs. map (λ a. arc_value a) xs) c.deref-2.ensures.value ∙ c.in_ok-arrays.ensures in
    let lists = flow-lists cat c.args.name.now _ (rw c.in-Some-lists.is at c.lists.ensures) in
    let ran : map execution_of c.in_ok-executed.executed.items ≡ executions_of v =
    c.in_ok-executed.ensures ∙ ap₂ (λ (f : Graph) (gs : List Grid). executions f gs) graph arrays in
    IfOk-both c.carried.result _ _ (IsTrailOf v)
    (λ t is kept. (is ∙ ran, rw (c.as_slice.ensures, lists, ran) at kept)) c.carried.ensures.executions
    c.carried.ensures.kept where
      IfOk-both : {X E : Type 0} (r : Result X E) (P Q R : X → Type 0) → ((x : X) → P x → Q x → R x)
          → IfOk r P → IfOk r Q → IfOk r R
      IfOk-both (Ok x) P Q R turn p q = turn x p q
      IfOk-both (Err e) P Q R turn p q = p

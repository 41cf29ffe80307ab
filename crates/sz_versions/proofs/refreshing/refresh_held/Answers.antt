-- The runs are what a refresh starts from, and what it gives is carried of the version on the new base arrays.
use Rattle.std.proofs.Common.{◌≡◌, ℕ, ◌+◌, List, [], map, length, sym, ap, ap₂, ◌∙◌, arith}
use Rattle.std.specs.Arc.{arc_value}
use Rattle.std.proofs.lemmas.List.{length-map}
use Rattle.sz_cells.specs.Cells.{Cells}
use Rattle.sz_spec.specs.Values.{Grid}
use Rattle.sz_spec.specs.Flows.{Graph}
use Rattle.sz_spec.specs.Affected.{affected, cells_in}
use Rattle.sz_flow.specs.Executions.{execution_of, executions}
use Rattle.sz_refresh.specs.Before.{IsBefore}
use Rattle.sz_catalogue.specs.Holdings.{Base, Version, Holdings, arrays_of, no_holdings}
use Rattle.sz_catalogue.specs.Refreshes.{version_refreshed, cells_affected}
use Rattle.sz_versions.specs.Runs.{executions_of}
use Rattle.sz_versions.proofs.Keeping.{lists-listed}
use Rattle.sz_versions.proofs.Steps.{base-shapes}
use Rattle.sz_versions.proofs.Refreshes.{refreshed-sound, before-refresh, shape-at}
use Rattle.sz_versions.proofs.refreshing.refresh_held.Given.{Over}
use Rattle.sz_versions.proofs.refreshing.refresh_held.Goals.{After-deref-2, In_ok-refreshed}
use Rattle.sz_versions.proofs.refreshing.refresh_held.Goals as goal

-- the flow is the version's, and the arrays are those of the version that the refresh makes
record IsOnNew (g : Over) (c : After-deref-2 g) (h : Holdings) : Type 0 where
  pub flow : c.deref.result.now ≡ c.args.version.now.flow
  pub arrays : map (λ a. arc_value a) c.deref-2.result.now
      ≡ arrays_of (version_refreshed h c.args.version.now c.args.input c.args.set.now).base
  pub start : IsBefore c.deref.result.now (map execution_of c.args.old.now)
      (map (λ a. arc_value a) c.deref-2.result.now) c.args.input c.in_ok-new.new.changed
      (arrays_of c.args.version.now.base)

is-on-new : (g : Over) (c : After-deref-2 g) (h : Holdings) → IsOnNew g c h
is-on-new g c h =
    let v = c.args.version.now in
    let w = version_refreshed h v c.args.input c.args.set.now in
    let flow : c.deref.result.now ≡ v.flow = c.deref.ensures ∙ ap (λ (x : Version). x.flow) c.version.view_is in
    let arrays : map (λ a. arc_value a) c.deref-2.result.now ≡ arrays_of w.base =
    ap (λ xs. map (λ a. arc_value a) xs) c.deref-2.ensures.value ∙ c.in_ok-new.ensures.arrays h in
    record {
      flow = flow;
      arrays = arrays;
      start = rw (flow, c.requires.old, arrays, c.in_ok-new.ensures.changed)
          (before-refresh h v c.args.input c.args.set.now c.requires.input c.requires.cells);
    }

pub refresh-requires-clause-well_formed : goal.refresh-requires-clause-well_formed
refresh-requires-clause-well_formed g c =
    let on = is-on-new g (goal.at.refresh-requires-clause-well_formed g c).After-deref-2 no_holdings in
    λ κs lives. rw on.flow c.requires.sound.run.1.right

pub refresh-requires-clause-count : goal.refresh-requires-clause-count
refresh-requires-clause-count g c =
    let w = version_refreshed no_holdings c.args.version.now c.args.input c.args.set.now in
    let on = is-on-new g (goal.at.refresh-requires-clause-count g c).After-deref-2 no_holdings in
    let new = refreshed-sound no_holdings c.args.version.now c.args.input c.args.set.now c.requires.sound in
    λ κs lives. sym (length-map c.deref-2.result.now (λ a. arc_value a))
    ∙ ap (λ (gs : List Grid). length gs) on.arrays
    ∙ length-map w.base (λ (b : Base). b.array)
    ∙ new.run.1.count
    ∙ sym (ap (λ (x : Graph). x.inputs) on.flow)

pub refresh-requires-clause-fits : goal.refresh-requires-clause-fits
refresh-requires-clause-fits g c =
    let w = version_refreshed no_holdings c.args.version.now c.args.input c.args.set.now in
    let on = is-on-new g (goal.at.refresh-requires-clause-fits g c).After-deref-2 no_holdings in
    let new = refreshed-sound no_holdings c.args.version.now c.args.input c.args.set.now c.requires.sound in
    λ κs lives. (new.run.0, rw (on.flow, on.arrays, base-shapes w.base) new.run.1.fits)

pub refresh-requires-clause-shape : goal.refresh-requires-clause-shape
refresh-requires-clause-shape g c =
    let on = is-on-new g (goal.at.refresh-requires-clause-shape g c).After-deref-2 no_holdings in
    λ κs lives. ap (λ (s : Cells). s.extent) c.in_ok-new.ensures.changed
    ∙ sym (rw on.arrays (shape-at no_holdings c.args.version.now c.args.input c.args.set.now))

pub refresh-requires-clause-before : goal.refresh-requires-clause-before
refresh-requires-clause-before g c =
    let on = is-on-new g (goal.at.refresh-requires-clause-before g c).After-deref-2 no_holdings in
    λ κs lives. (arrays_of c.args.version.now.base, on.start)

pub carried-requires : goal.carried-requires
carried-requires g c =
    let v = c.args.version.now in
    let w = version_refreshed no_holdings v c.args.input c.args.set.now in
    let on = is-on-new g (goal.at.carried-requires g c).After-deref-2 no_holdings in
    let lists = c.as_slice-lists.ensures ∙ ap (λ (x : Version). x.lists) c.version.view_is in
    rw (lists, c.in_ok-refreshed.ensures.runs, on.flow, on.arrays)
    (lists-listed (arrays_of w.base) [] v.flow.nodes v.lists c.requires.sound.run.1.lists)

pub returns-clause-array : goal.returns-clause-array
returns-clause-array g c = c.in_ok-new.ensures.array

pub returns-clause-run : goal.returns-clause-run
returns-clause-run g c = λ h.
    let w = version_refreshed h c.args.version.now c.args.input c.args.set.now in
    let on = is-on-new g (goal.at.returns-clause-run g c).After-deref-2 h in
    let lists = c.as_slice-lists.ensures ∙ ap (λ (x : Version). x.lists) c.version.view_is in
    let ran : map execution_of c.in_ok-refreshed.refreshed.runs.items ≡ executions_of w =
    c.in_ok-refreshed.ensures.runs ∙ ap₂ (λ (f : Graph) (gs : List Grid). executions f gs) on.flow on.arrays in
    (c.in_ok-run.ensures.executions ∙ ran, rw (lists, ran) at c.in_ok-run.ensures.kept)

-- the cells that a refresh tells are those that are affected
affected-told : (g : Over) (c : In_ok-refreshed g) (h : Holdings)
    → c.deref.result.now ≡ c.args.version.now.flow
    → map (λ a. arc_value a) c.deref-2.result.now
    ≡ arrays_of (version_refreshed h c.args.version.now c.args.input c.args.set.now).base
    → IsBefore c.deref.result.now (map execution_of c.args.old.now) (map (λ a. arc_value a) c.deref-2.result.now)
    c.args.input c.in_ok-new.new.changed (arrays_of c.args.version.now.base)
    → cells_in c.in_ok-refreshed.refreshed.affected.items
    ≡ cells_affected h c.args.version.now c.args.input c.args.set.now
affected-told g c h flow arrays start =
    let v = c.args.version.now in
    let i = c.args.input in
    let w = version_refreshed h v i c.args.set.now in
    ap (λ (cs : List Cells). cells_in cs) (c.in_ok-refreshed.ensures.affected (arrays_of v.base) start
    ∙ ap (λ (f : Graph). affected f (arrays_of v.base) (map (λ a. arc_value a) c.deref-2.result.now) i
    c.in_ok-new.new.changed) flow
    ∙ ap (λ (gs : List Grid). affected v.flow (arrays_of v.base) gs i c.in_ok-new.new.changed) arrays
    ∙ ap (λ (cells : Cells). affected v.flow (arrays_of v.base) (arrays_of w.base) i cells) c.in_ok-new.ensures.changed)

pub returns-clause-cells : goal.returns-clause-cells
returns-clause-cells g c = λ h.
    let s = goal.at.returns-clause-cells g c in
    let on = is-on-new g s.After-deref-2 h in
    omega (
      arith,
      c.count.ensures,
      c.count-before.ensures,
      c.in_ok-refreshed.ensures.ticks,
      affected-told g s.In_ok-refreshed h on.flow on.arrays on.start,
    )

pub returns-clause-ticks : goal.returns-clause-ticks
returns-clause-ticks g c = λ h.
    let s = goal.at.returns-clause-ticks g c in
    let on = is-on-new g s.After-deref-2 h in
    c.in_ok-refreshed.ensures.ticks
    ∙ ap (λ (n : ℕ). c.args.tally.now + n) (affected-told g s.In_ok-refreshed h on.flow on.arrays on.start)

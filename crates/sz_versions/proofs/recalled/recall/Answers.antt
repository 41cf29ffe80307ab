-- The version is held and in order, so its flow fits its base arrays; and its runs stand beside the stores that were
-- read.
use Rattle.std.proofs.Common.{◌≡◌, ◌∷◌, [], ℕ, List, length, true, map, refl, sym, ap, ap₂, ◌∙◌, subst}
use Rattle.std.proofs.Common.{Option, Some, None, Ok}
use Rattle.std.specs.Arc.{arc_value}
use Rattle.std.proofs.lemmas.List.{length-map}
use Rattle.sz_cells.specs.Extent.{Extent}
use Rattle.sz_spec.specs.Values.{Grid, extents_of}
use Rattle.sz_spec.specs.Flows.{Graph}
use Rattle.sz_spec.specs.FlowShapes.{output_shapes}
use Rattle.sz_store.specs.Kept.{NodeLineage}
use Rattle.sz_flow.specs.Executions.{executions}
use Rattle.sz_catalogue.specs.Holdings.{Base, Version, Holdings, arrays_of, version_numbered}
use Rattle.sz_catalogue.specs.Kept.{IsRun}
use Rattle.sz_catalogue.specs.Rules.{version_of}
use Rattle.sz_catalogue.proofs.Order as in_order
use Rattle.sz_bodies.specs.Fitting.{Fit, lineages}
use Rattle.sz_recover.specs.Logs.{Kept}
use Rattle.sz_recover.specs.Opened.{IsEntryOf}
use Rattle.sz_versions.specs.Runs.{executions_of}
use Rattle.sz_versions.specs.Stores.{Trail, keeping_from}
use Rattle.sz_versions.specs.Residents.{Resident, store_read, stores_read, IsResident, kept_of}
use Rattle.sz_versions.proofs.Keeps.{version-found, some-same}
use Rattle.sz_versions.proofs.Steps.{base-shapes}
use Rattle.sz_versions.proofs.recalled.recall.Goals.{In_ok-stores}
use Rattle.sz_versions.proofs.recalled.recall.Goals as goal

-- ---- what is carried

-- what is read back of stores that were read
read-back : (ks : List (Option NodeLineage)) → map store_read (map keeping_from ks) ≡ ks
read-back [] = refl
read-back (None ∷ ks) = ap (λ (xs : List (Option NodeLineage)). None ∷ xs) (read-back ks)
read-back (Some k ∷ ks) = ap (λ (xs : List (Option NodeLineage)). Some k ∷ xs) (read-back ks)

-- what a version carries that a log gave
abbrev logged_one : ℕ → Trail → Resident
logged_one n t = record { number = n; logged = true; trail = t }

abbrev entry : ℕ → List (Option NodeLineage) → Kept
entry n ks = record { number = n; stores = ks }

-- the runs of an entry's version, beside the entry's stores
record IsReadOf (c : Holdings) (k : Kept) (t : Trail) : Type 0 where
  resident : IsResident c (logged_one k.number t)
  kept : kept_of (logged_one k.number t) ≡ k

read-of : (c : Holdings) (k : Kept) (t : Trail) → IsEntryOf c k
    → t.executions ≡ executions_of (version_of c k.number) → t.kept ≡ map keeping_from k.stores → IsReadOf c k t
read-of c k t own executed kept =
    let back : stores_read t ≡ k.stores = ap (map store_read) kept ∙ read-back k.stores in
    record {
      resident = record {
        held = own.held;
        own = record {
          awaited = own.awaited;
          executions = executed;
          kept = kept ∙ ap (map keeping_from) (sym back);
          fit = subst (Fit (version_of c k.number)) (sym back) own.fit;
        };
      };
      kept = ap (entry k.number) back;
    }

-- ---- what is run

-- what fits a flow and arrays fits what is equal to them
fits-same : (f with-f : Graph) (gs with-gs : List Grid) (shapes : List Extent) → f ≡ with-f → gs ≡ with-gs
    → output_shapes with-f (extents_of with-gs) ≡ Ok shapes → output_shapes f (extents_of gs) ≡ Ok shapes
fits-same f with-f gs with-gs shapes flow arrays fits = rw (flow, arrays) fits

-- the flow and the arrays are those of the version that is held
record IsRunWith (c : In_ok-stores) : Type 0 where
  flow : arc_value c.held.inside.flow ≡ c.in-Some.held.now.flow
  arrays : map (λ a. arc_value a) c.in_ok-arrays.arrays.items ≡ arrays_of c.in-Some.held.now.base
  run : (outputs : List Extent) × IsRun c.in-Some.held.now outputs

run-with : (c : In_ok-stores) → IsRunWith c
run-with c =
    let base = c.as_slice.ensures ∙ ap (λ (v : Version). v.base) c.held.view_is in
    let found = rw c.in-Some.is at c.version.ensures in
    record {
      flow = ap (λ (v : Version). v.flow) c.held.view_is;
      arrays = c.in_ok-arrays.ensures ∙ ap arrays_of base;
      run = (in_order.version-found c.args.catalogue.now _ _ c.is_in_order.ensures (sym found)).run;
    }

pub of-requires-clause-well_formed : goal.of-requires-clause-well_formed
of-requires-clause-well_formed c =
    let h = run-with (goal.at.of-requires-clause-well_formed c).In_ok-stores in
    rw h.flow h.run.1.right

pub of-requires-clause-count : goal.of-requires-clause-count
of-requires-clause-count c =
    let h = run-with (goal.at.of-requires-clause-count c).In_ok-stores in
    sym (length-map c.in_ok-arrays.arrays.items (λ a. arc_value a)) ∙ ap (λ (gs : List Grid). length gs) h.arrays
    ∙ length-map c.in-Some.held.now.base (λ (b : Base). b.array) ∙ h.run.1.count
    ∙ ap (λ (f : Graph). f.inputs) (sym h.flow)

pub of-requires-clause-fits : goal.of-requires-clause-fits
of-requires-clause-fits c =
    let h = run-with (goal.at.of-requires-clause-fits c).In_ok-stores in
    let base = c.in-Some.held.now.base in
    let fits = ap (λ (es : List Extent). output_shapes c.in-Some.held.now.flow es) (base-shapes base) ∙ h.run.1.fits in
    (h.run.0, fits-same _ _ _ _ h.run.0 h.flow h.arrays fits)

pub returns : goal.returns
returns c =
    let cat = c.args.catalogue.now in
    let k = c.args.kept.now in
    let t = c.in_ok-of.field-0 in
    let h = run-with (goal.at.returns c).In_ok-stores in
    let found = rw c.in-Some.is at c.version.ensures in
    let number : c.kept.inside.version ≡ k.number = ap (λ (x : Kept). x.number) c.kept.view_is in
    let held : c.in-Some.held.now ≡ version_of cat k.number =
    some-same _ _ (found ∙ ap (version_numbered cat) number ∙ version-found cat k.number c.requires.held) in
    let executed = ap (λ (x : Trail). x.executions) c.in_ok-of.ensures
    ∙ ap₂ (λ (f : Graph) (gs : List Grid). executions f gs) h.flow h.arrays ∙ ap executions_of held in
    let kept = ap (λ (x : Trail). x.kept) c.in_ok-of.ensures ∙ c.in_ok-stores.ensures
    ∙ ap (λ xs. map keeping_from (lineages xs)) c.deref.ensures.value
    ∙ ap (λ (x : Kept). map keeping_from x.stores) c.kept.view_is in
    let is = read-of cat k t c.requires executed kept in
    record {
      own = subst (λ (n : ℕ). IsResident cat (logged_one n t)) (sym number) is.resident;
      logged = refl;
      kept = ap (λ (n : ℕ). kept_of (logged_one n t)) number ∙ is.kept;
    }

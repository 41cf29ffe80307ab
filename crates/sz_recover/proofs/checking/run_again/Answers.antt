-- A version that is held fits its base arrays.
use Rattle.std.proofs.Common.{◌≡◌, List, map, sym, subst, ◌∙◌, ap}
use Rattle.std.specs.Arc.{arc_value}
use Rattle.sz_spec.specs.Flows.{Graph}
use Rattle.sz_spec.specs.Values.{Grid}
use Rattle.sz_flow.specs.Executions.{FlowFits}
use Rattle.sz_catalogue.specs.Holdings.{Version, arrays_of}
use Rattle.sz_recover.proofs.Sites.{run-fits}
use Rattle.sz_recover.proofs.checking.run_again.Goals as goal

pub run_all-requires-clause-fits : goal.run_all-requires-clause-fits
run_all-requires-clause-fits g c =
    λ κs low.
    let v = c.args.version.now in
    let flow : c.deref.result.now ≡ v.flow = c.deref.ensures ∙ ap (λ (w : Version). w.flow) c.version.view_is in
    let base = c.as_slice.ensures ∙ ap (λ (w : Version). w.base) c.version.view_is in
    let arrays : map (λ a. arc_value a) c.deref-2.result.now ≡ arrays_of v.base =
    ap (map (λ a. arc_value a)) c.deref-2.ensures.value ∙ c.in_ok-arrays.ensures ∙ ap arrays_of base in
    subst (λ (f : Graph). FlowFits f (map (λ a. arc_value a) c.deref-2.result.now)) (sym flow)
    (subst (λ (gs : List Grid). FlowFits v.flow gs) (sym arrays) (run-fits v c.requires.run.0 c.requires.run.1))

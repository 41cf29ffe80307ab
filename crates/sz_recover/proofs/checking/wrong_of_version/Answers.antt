-- The operators are executed at the shapes that the version has.
use Rattle.std.proofs.Common.{◌≡◌, List, map, sym, subst, ◌∙◌, ap}
use Rattle.std.specs.List.{AllZip}
use Rattle.sz_spec.specs.declared.modes.Strategy.{Strategy}
use Rattle.sz_spec.specs.Shapes.{Site}
use Rattle.sz_flow.specs.Executions.{Execution, execution_of}
use Rattle.sz_catalogue.specs.Holdings.{Version}
use Rattle.sz_recover.specs.Comparing.{IsListAt}
use Rattle.sz_bodies.specs.Fitting.{FitNodes, lineages, sites_of}
use Rattle.sz_recover.specs.Soundness.{executions_of}
use Rattle.sz_recover.proofs.Sites.{sites-same}
use Rattle.sz_recover.proofs.WrongNodes.{lists-executed}
use Rattle.sz_recover.proofs.checking.wrong_of_version.Goals as goal

pub wrong_of_nodes-requires-clause-fit : goal.wrong_of_nodes-requires-clause-fit
wrong_of_nodes-requires-clause-fit g c κs within =
    let v = c.args.version.now in
    let law = c.executions_are_those_of_their_nodes.ensures in
    let run = c.requires.run in
    let kept = lineages c.args.nodes.now in
    let es : map execution_of c.deref.result.now ≡ executions_of v =
    ap (map execution_of) c.deref.ensures.value ∙ c.in_ok-runs.ensures in
    let lists : c.as_slice.result.now ≡ v.lists =
    c.as_slice.ensures ∙ ap (λ (w : Version). w.lists) c.version.view_is in
    let same = ap (map (λ (e : Execution). e.site)) es ∙ sites-same law.count law.each v run.0 run.1 in
    subst (λ (ss : List Site). FitNodes ss c.as_slice.result.now kept) (sym same)
    (subst (λ (ls : List (List Strategy)). FitNodes (sites_of v) ls kept) (sym lists) c.requires.fit)

pub wrong_of_nodes-requires-clause-lists : goal.wrong_of_nodes-requires-clause-lists
wrong_of_nodes-requires-clause-lists g c κs within =
    let v = c.args.version.now in
    let law = c.executions_are_those_of_their_nodes.ensures in
    let run = c.requires.run in
    let now = map execution_of c.deref.result.now in
    let es : now ≡ executions_of v = ap (map execution_of) c.deref.ensures.value ∙ c.in_ok-runs.ensures in
    let lists : c.as_slice.result.now ≡ v.lists =
    c.as_slice.ensures ∙ ap (λ (w : Version). w.lists) c.version.view_is in
    let same = ap (map (λ (e : Execution). e.site)) es ∙ sites-same law.count law.each v run.0 run.1 in
    subst (λ (ls : List (List Strategy)). AllZip IsListAt now ls) (sym lists)
    (lists-executed v now same run.1.lists)

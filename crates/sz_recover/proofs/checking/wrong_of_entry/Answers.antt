-- There is a place for stores for each node, and a flow has few.
use Rattle.std.proofs.Common.{◌≡◌, ℕ, length, subst, ap, arith, option_map}
use Rattle.std.specs.Arc.{arc_value}
use Rattle.std.proofs.lemmas.List.{length-map}
use Rattle.sz_catalogue.specs.Kept.{IsRun}
use Rattle.sz_catalogue.specs.Rules.{version_of}
use Rattle.sz_catalogue.proofs.Runs.{outputs-count}
use Rattle.sz_bodies.specs.Fitting.{sites_of, site_in, lineages}
use Rattle.sz_recover.specs.Logs.{Kept}
use Rattle.sz_bodies.proofs.NodesPut.{fit-length}
use Rattle.sz_recover.proofs.checking.wrong_of_entry.Goals as goal

pub wrong_of_version-requires-clause-few : goal.wrong_of_version-requires-clause-few
wrong_of_version-requires-clause-few g c =
    let held = c.args.catalogue.now in
    let kept = c.args.kept.now in
    let v = version_of held kept.number in
    let items = c.kept.inside.nodes.items in
    let outputs = c.outputs-outputs.result.now in
    let run : IsRun v outputs =
    subst (λ (n : ℕ). IsRun (version_of held n) outputs) (ap (λ (k : Kept). k.number) c.kept.view_is)
    c.outputs-outputs.ensures.run in
    let stores : length (lineages items) ≡ length kept.stores = ap (λ (k : Kept). length k.stores) c.kept.view_is in
    let fit = fit-length (sites_of v) v.lists kept.stores c.requires.entry.fit in
    omega (
      arith,
      ap length c.deref.ensures.value,
      length-map items (option_map (λ a. arc_value a)),
      stores,
      fit.1,
      length-map v.flow.nodes (site_in v),
      outputs-count v outputs run,
      c.outputs-outputs.ensures.few,
    )

-- The one at the place that is found is that of the version, and it is merged; the others are as they were.
use Rattle.std.proofs.Common.{sym, ap, ap₂, ◌∙◌}
use Rattle.std.proofs.lemmas.Result.{IfOk-weaker, on_ok_weaker, on_err_weaker}
use Rattle.sz_catalogue.specs.Holdings.{Version}
use Rattle.sz_versions.specs.Residents.{stored_in}
use Rattle.sz_versions.specs.Merging.{kinds_by}
use Rattle.sz_versions.proofs.MergedRuns.{carried-set, merged-set, same-set}
use Rattle.sz_versions.proofs.Service.{is-found}
use Rattle.sz_versions.proofs.held.HeldRuns.merged.Goals as goal

pub merged-requires-clause-sound : goal.merged-requires-clause-sound
merged-requires-clause-sound g c =
    let h = is-found c.args.version c.found-at.result.1 c.self.view_is c.requires.service c.found-at.ensures.version
    c.found-at.ensures.place c.index_mut.ensures.value in
    λ κs lives. h.sound

pub merged-requires-clause-awaited : goal.merged-requires-clause-awaited
merged-requires-clause-awaited g c =
    let h = is-found c.args.version c.found-at.result.1 c.self.view_is c.requires.service c.found-at.ensures.version
    c.found-at.ensures.place c.index_mut.ensures.value in
    λ κs lives. ap (λ (v : Version). v.awaited) h.version ∙ c.requires.awaited

pub merged-requires-clause-own : goal.merged-requires-clause-own
merged-requires-clause-own g c =
    let h = is-found c.args.version c.found-at.result.1 c.self.view_is c.requires.service c.found-at.ensures.version
    c.found-at.ensures.place c.index_mut.ensures.value in
    λ κs lives. h.own

pub returns : goal.returns
returns g c =
    let h = is-found c.args.version c.found-at.result.1 c.self.view_is c.requires.service c.found-at.ensures.version
    c.found-at.ensures.place c.index_mut.ensures.value in
    let new = c.merged.new.self in
    let carried = carried-set new h c.merged.ensures.kept in
    record {
      kinds = IfOk-weaker c.merged.result _ _ (λ ks is. is ∙ ap₂ kinds_by (sym h.logged) h.version)
          c.merged.ensures.kinds;
      service = carried.service;
      logged = carried.logged;
      stored = on_ok_weaker c.merged.result (merged-set new h c.merged.ensures.kept.number) c.merged.ensures.ok;
      kept = on_err_weaker c.merged.result
          (λ is. ap stored_in (same-set c.self.inside.runs.items c.found-at.result.1 c.index_mut.result.now new
          c.index_mut.ensures.value is ∙ c.self.view_is))
          c.merged.ensures.err;
    }

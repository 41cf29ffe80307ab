-- The one at the place that is found is that of the version, and another is made of it; the others are as they were.
use Rattle.std.proofs.Common.{ap, ◌∙◌, subst, true}
use Rattle.std.proofs.lemmas.Result.{IfOk-weaker}
use Rattle.sz_catalogue.specs.Holdings.{Version}
use Rattle.sz_versions.specs.Stores.{IsTrailOf}
use Rattle.sz_versions.proofs.Service.{is-found, stays-set}
use Rattle.sz_versions.proofs.held.HeldRuns.whole.Goals as goal

pub whole-requires-clause-sound : goal.whole-requires-clause-sound
whole-requires-clause-sound g c =
    let h = is-found c.args.version c.found-at.result.1 c.self.view_is c.requires.service c.found-at.ensures.version
    c.found-at.ensures.place c.index_mut.ensures.value in
    λ κs lives. h.sound

pub whole-requires-clause-first : goal.whole-requires-clause-first
whole-requires-clause-first g c =
    let h = is-found c.args.version c.found-at.result.1 c.self.view_is c.requires.service c.found-at.ensures.version
    c.found-at.ensures.place c.index_mut.ensures.value in
    λ κs lives. ap (λ (v : Version). v.awaited) h.version ∙ c.requires.first

pub whole-requires-clause-own : goal.whole-requires-clause-own
whole-requires-clause-own g c =
    let h = is-found c.args.version c.found-at.result.1 c.self.view_is c.requires.service c.found-at.ensures.version
    c.found-at.ensures.place c.index_mut.ensures.value in
    λ κs lives. h.own

pub returns : goal.returns
returns g c =
    let h = is-found c.args.version c.found-at.result.1 c.self.view_is c.requires.service c.found-at.ensures.version
    c.found-at.ensures.place c.index_mut.ensures.value in
    let stays = stays-set c.whole.new.self h c.whole.ensures.still in
    record {
      whole = IfOk-weaker c.whole.result _ _
          (λ t own. subst (λ (v : Version). IsTrailOf (record v { awaited = true }) t) h.version own)
          c.whole.ensures.whole;
      service = stays.service;
      logged = stays.logged;
      stored = stays.stored;
    }

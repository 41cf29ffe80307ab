-- The one at the place that is found is that of the version, and it is asked; the others are as they were.
use Rattle.std.proofs.Common.{◌≡◌, List, Option, sym, subst, true}
use Rattle.std.proofs.lemmas.Result.{IfOk-weaker}
use Rattle.std.specs.List.{list_all}
use Rattle.sz_spec.specs.Paths.{is_joined}
use Rattle.sz_store.specs.Kept.{NodeLineage}
use Rattle.sz_catalogue.specs.Holdings.{Version}
use Rattle.sz_catalogue.specs.Rules.{version_of, has_named_cell}
use Rattle.sz_catalogue.specs.Starts.{path_start}
use Rattle.sz_versions.specs.Inquiries.{IsInquiryBy}
use Rattle.sz_versions.specs.Residents.{logged_of}
use Rattle.sz_versions.proofs.Keeps.{not_false}
use Rattle.sz_versions.proofs.Service.{is-found, stays-set}
use Rattle.sz_versions.proofs.held.HeldRuns.inquiry.Goals as goal

pub inquiry-requires-clause-sound : goal.inquiry-requires-clause-sound
inquiry-requires-clause-sound g c =
    let h = is-found c.args.version c.found-at.result.1 c.self.view_is c.requires.service c.found-at.ensures.version
    c.found-at.ensures.place c.index_mut.ensures.value in
    λ κs lives. h.sound

pub inquiry-requires-clause-own : goal.inquiry-requires-clause-own
inquiry-requires-clause-own g c =
    let h = is-found c.args.version c.found-at.result.1 c.self.view_is c.requires.service c.found-at.ensures.version
    c.found-at.ensures.place c.index_mut.ensures.value in
    λ κs lives. h.own

pub inquiry-requires-clause-joined : goal.inquiry-requires-clause-joined
inquiry-requires-clause-joined g c =
    let h = is-found c.args.version c.found-at.result.1 c.self.view_is c.requires.service c.found-at.ensures.version
    c.found-at.ensures.place c.index_mut.ensures.value in
    λ κs lives. subst (λ (v : Version). is_joined c.args.dir v.flow c.args.path.now ≡ true) (sym h.version)
    (not_false _ c.requires.joined)

pub inquiry-requires-clause-named : goal.inquiry-requires-clause-named
inquiry-requires-clause-named g c =
    let h = is-found c.args.version c.found-at.result.1 c.self.view_is c.requires.service c.found-at.ensures.version
    c.found-at.ensures.place c.index_mut.ensures.value in
    λ κs lives. subst
    (λ (v : Version). list_all (has_named_cell (path_start c.args.dir v c.args.path.now)) c.args.named.now ≡ true)
    (sym h.version) (not_false _ c.requires.range)

pub returns : goal.returns
returns g c =
    let h = is-found c.args.version c.found-at.result.1 c.self.view_is c.requires.service c.found-at.ensures.version
    c.found-at.ensures.place c.index_mut.ensures.value in
    let stays = stays-set c.inquiry.new.self h c.inquiry.ensures.still in
    record {
      search = IfOk-weaker c.inquiry.result _ _
          (λ s is. subst
          (λ (o : Option (List (Option NodeLineage))). IsInquiryBy o (version_of c.args.catalogue.now c.args.version)
          c.args.dir c.args.path.now c.args.named.now s)
          (sym h.logged)
          (subst (λ (v : Version). IsInquiryBy (logged_of c.index_mut.result.now) v c.args.dir c.args.path.now
          c.args.named.now s) h.version is))
          c.inquiry.ensures.search;
      service = stays.service;
      logged = stays.logged;
      stored = stays.stored;
    }

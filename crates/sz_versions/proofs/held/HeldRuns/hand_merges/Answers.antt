-- The one at the place that is found is that of the version, and it is lent; the others are as they were.
use Rattle.std.proofs.Common.{◌≡◌, Some}
use Rattle.sz_catalogue.specs.Holdings.{version_numbered}
use Rattle.sz_versions.proofs.Service.{is-found, stays-set}
use Rattle.sz_versions.proofs.held.HeldRuns.hand_merges.Goals as goal

pub hand_merges-requires : goal.hand_merges-requires
hand_merges-requires g c =
    let found : Some c.in-Some.held.now ≡ version_numbered c.args.catalogue.now c.args.version =
    rw c.in-Some.is at c.version.ensures in
    let h = is-found c.args.version c.in-Some-place_of.at c.self.view_is c.requires.service found
    c.in-Some-place_of.ensures.some c.index_mut.ensures.value in
    record { sound = h.sound; own = h.own }

pub returns : goal.returns
returns g c =
    let found : Some c.in-Some.held.now ≡ version_numbered c.args.catalogue.now c.args.version =
    rw c.in-Some.is at c.version.ensures in
    let h = is-found c.args.version c.in-Some-place_of.at c.self.view_is c.requires.service found
    c.in-Some-place_of.ensures.some c.index_mut.ensures.value in
    let stays = stays-set c.hand_merges.new.self h c.hand_merges.ensures in
    record { service = stays.service; logged = stays.logged; stored = stays.stored }

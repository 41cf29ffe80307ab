-- What is carried of the version can be handed, and nothing is seen of it.
use Rattle.std.proofs.Common.{sym, ap, ◌∙◌, subst}
use Rattle.sz_catalogue.specs.Holdings.{Version}
use Rattle.sz_versions.specs.Lending.{IsTrailStill}
use Rattle.sz_versions.specs.Stores.{Trail}
use Rattle.sz_versions.proofs.Lent.{unlent-still}
use Rattle.sz_versions.proofs.MergedNodes.{by-mergeable, mergeable-before}
use Rattle.sz_versions.proofs.Service.{inside-own, still-made}
use Rattle.sz_versions.proofs.Still.{trail-same}
use Rattle.sz_versions.proofs.held.HeldRun.hand_merges.Goals as goal

pub hand_run-requires : goal.hand_run-requires
hand_run-requires g c =
    let v = c.args.version.now in
    mergeable-before v.awaited _ _ _
    (by-mergeable c.self.inside.logged v c.in-Made.run' c.as_slice-lists.result.now c.requires.sound
    (c.as_slice-lists.ensures ∙ ap (λ (x : Version). x.lists) c.version.view_is)
    (inside-own v (rw c.in-Made.is at c.self.view_is) c.requires.own))

pub returns : goal.returns
returns g c =
    let t = c.in-Made.run' in
    still-made c.self.inside.number c.self.inside.logged t c.hand_run.new.run c.args.self.now
    (rw c.in-Made.is at c.self.view_is)
    (subst (λ (u : Trail). IsTrailStill t u) (sym c.hand_run.ensures) (trail-same t))

pub returns-in_default : goal.returns-in_default
returns-in_default g c = unlent-still c.args.self.now _ c.self.view_is

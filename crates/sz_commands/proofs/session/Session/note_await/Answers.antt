-- The catalogue notes the await, and what is carried of the version is put in the place of what was.
use Rattle.std.proofs.Common.{◌≡◌, List, false, true, sym, ap, subst}
use Rattle.std.specs.Prelude.{None}
use Rattle.std.specs.List.{AllZip}
use Rattle.sz_script.specs.declared.command.Command.TheVariants as order
use Rattle.sz_catalogue.specs.Holdings.{Holdings}
use Rattle.sz_catalogue.specs.Changes.{with_await}
use Rattle.sz_catalogue.specs.Responses.{Response}
use Rattle.sz_catalogue.specs.Rules.{version_of}
use Rattle.sz_versions.specs.Stores.{IsTrailOf}
use Rattle.sz_versions.specs.Residents.{Resident, IsInService, stored_in}
use Rattle.sz_versions.proofs.Residents.{residents-few, service-awaited}
use Rattle.sz_commands.specs.States.{SessionState}
use Rattle.sz_commands.specs.Carrying.{IsFinishedIn}
use Rattle.sz_commands.proofs.Carrying.{all-finished, stored-finished}
use Rattle.sz_commands.proofs.Seen.{seen-awaited, free-inside, is-held}
use Rattle.sz_commands.proofs.session.Session.note_await.Goals as goal

pub replace-requires : goal.replace-requires
replace-requires c =
    record { once = residents-few c.self.inside.catalogue c.self.inside.runs c.args.version c.self.invariant.residents }

pub await_version-requires : goal.await_version-requires
await_version-requires c =
    record { judged = free-inside (order.Await c.args.version) c.self.view_is c.requires.judged }

pub invariant_of-self : goal.invariant_of-self
invariant_of-self c =
    let cat = c.self.inside.catalogue in
    let rs = c.self.inside.runs in
    let n = c.args.version in
    let held = is-held cat n (free-inside (order.Await n) c.self.view_is c.requires.judged) in
    let own =
    subst (λ (s : SessionState). IsTrailOf (record (version_of s.held n) { awaited = true }) c.args.run)
    (sym c.self.view_is)
    c.requires.own in
    subst (λ (h : Holdings). IsInService h c.replace.new.self)
    (sym (ap (λ (p : Holdings × Response). p.0) c.await_version.ensures))
    (subst (λ (xs : List Resident). IsInService (with_await cat n) xs) (sym c.replace.ensures)
    (service-awaited cat rs n c.args.run c.self.invariant held own))

pub returns-clause-reply : goal.returns-clause-reply
returns-clause-reply c =
    let cat = c.self.inside.catalogue in
    let n = c.args.version in
    let first =
    subst (λ (s : SessionState). (version_of s.held n).awaited ≡ false) (sym c.self.view_is) c.requires.first in
    rw (← c.self.view_is)
    (seen-awaited cat _ c.self.inside.runs c.replace.new.self n c.args.run _ None c.self.invariant first
    c.replace.ensures c.await_version.ensures)

pub returns-clause-stored : goal.returns-clause-stored
returns-clause-stored c =
    let n = c.args.version in
    let rs = c.self.inside.runs in
    let all = all-finished _ _ c.args.run.kept c.requires.own.1 in
    subst (λ (s : SessionState). AllZip (IsFinishedIn n) s.stored (stored_in c.replace.new.self)) c.self.view_is
    (subst (λ (xs : List Resident). AllZip (IsFinishedIn n) (stored_in rs) (stored_in xs)) (sym c.replace.ensures)
    (stored-finished n c.args.run rs all))

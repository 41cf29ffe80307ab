-- What is carried stays that of its versions.
use Rattle.std.proofs.Common.{sym, ap, ◌∙◌, subst}
use Rattle.std.specs.Prelude.{option_map}
use Rattle.sz_script.specs.declared.command.Command.TheVariants as order
use Rattle.sz_catalogue.specs.Holdings.{Holdings}
use Rattle.sz_catalogue.specs.Responses.{Response}
use Rattle.sz_catalogue.specs.Rules.{version_of}
use Rattle.sz_versions.specs.Residents.{IsInService}
use Rattle.sz_versions.proofs.Residents.{service-again}
use Rattle.sz_commands.specs.States.{SessionState, changed}
use Rattle.sz_commands.specs.Logged.{place_of}
use Rattle.sz_commands.proofs.Seen.{seen, free-inside, is-held}
use Rattle.sz_commands.proofs.session.Session.await_again.Goals as goal

pub await_version-requires : goal.await_version-requires
await_version-requires c =
    record { judged = free-inside (order.Await c.args.version) c.self.view_is c.requires.judged }

pub invariant_of-self : goal.invariant_of-self
invariant_of-self c =
    let held = is-held c.self.inside.catalogue c.args.version
    (free-inside (order.Await c.args.version) c.self.view_is c.requires.judged) in
    let awaited =
    ap (λ (s : SessionState). (version_of s.held c.args.version).awaited) c.self.view_is ∙ c.requires.awaited in
    subst (λ (h : Holdings). IsInService h c.self.inside.runs)
    (sym (ap (λ (p : Holdings × Response). p.0) c.await_version.ensures))
    (service-again c.self.inside.catalogue c.self.inside.runs c.args.version c.self.invariant held awaited)

pub returns : goal.returns
returns c =
    let end = option_map place_of c.self.inside.end in
    rw (← c.self.view_is)
    (ap (changed (seen c.self.inside.catalogue c.self.inside.runs end)) (sym c.await_version.ensures))

-- What is held stays sound, and what is carried stays that of its versions.
use Rattle.std.proofs.Common.{◌≡◌, sym, ap, subst}
use Rattle.std.specs.Prelude.{None}
use Rattle.sz_catalogue.specs.Holdings.{Holdings}
use Rattle.sz_catalogue.specs.Responses.{Response}
use Rattle.sz_catalogue.specs.Rules.{judged}
use Rattle.sz_commands.specs.States.{SessionState}
use Rattle.sz_versions.specs.Residents.{IsInService}
use Rattle.sz_versions.proofs.Keeps.{keeps-accepted}
use Rattle.sz_versions.proofs.Residents.{service-stays}
use Rattle.sz_commands.proofs.States.{accepted-changed, accepted-seen, no-version-untraced}
use Rattle.sz_commands.proofs.Carrying.{stored-left, no-version-leaves}
use Rattle.sz_commands.proofs.session.Session.accept.Goals as goal

pub accept-requires-clause-judged : goal.accept-requires-clause-judged
accept-requires-clause-judged c =
    subst (λ (s : SessionState). judged s.held c.args.command ≡ None) (sym c.self.view_is) c.requires.judged

pub invariant_of-self-2 : goal.invariant_of-self-2
invariant_of-self-2 c =
    let cat = c.self.inside.catalogue in
    let none = subst (λ (s : SessionState). judged s.held c.args.command ≡ None)
    (sym c.self.view_is) c.requires.judged in
    let after = sym (ap (λ (p : Holdings × Response). p.0) c.in_ok-reply.ensures.ok) in
    subst (λ (h : Holdings). IsInService h c.self.inside.runs) after
    (service-stays cat c.args.command c.self.inside.runs c.requires.kind none
    (keeps-accepted cat c.args.command c.self.invariant.sound c.requires.right none c.requires.kind) c.self.invariant)

pub returns-clause-reply : goal.returns-clause-reply
returns-clause-reply c =
    rw (← c.self.view_is) (accepted-changed _ _ c.args.command _ c.requires.kind c.in_ok-reply.ensures.ok)

pub returns-clause-seen : goal.returns-clause-seen
returns-clause-seen c = accepted-seen c.args.self.now _ c.args.command _ (returns-clause-reply c)

pub returns-clause-stored : goal.returns-clause-stored
returns-clause-stored c =
    stored-left c.args.self.now _ c.args.command _ (no-version-leaves c.args.command c.requires.kind)
    (returns-clause-reply c)

pub returns-clause-end : goal.returns-clause-end
returns-clause-end c = ap (λ (s : SessionState). s.end) c.self.view_is

pub returns-clause-untraced : goal.returns-clause-untraced
returns-clause-untraced c = no-version-untraced c.args.self.now c.args.command c.requires.kind

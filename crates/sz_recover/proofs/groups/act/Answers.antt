-- A version's group is bad where its body is lawful for no version, and one of kind 5 where it is not the first or not
-- bare; a line keeps no stores.
use Rattle.std.proofs.Common.{◌≡◌, ◌++◌, ℕ, List, [], sym, subst, ◌∙◌, append-nil, Some, None}
use Rattle.std.proofs.lemmas.Result.{IfErr-weaker, on_ok_weaker}
use Rattle.sz_recover.specs.Logs.{Kept, Acts, ActsAsVersion, IsBad, held_behind, version_kind}
use Rattle.sz_bodies.specs.Taking.{IfBad, NoneIsLawful}
use Rattle.sz_recover.proofs.Acting.{entry_of, line-acts, line-bad, other-stays, version-acts, version-bad, upgraded}
use Rattle.sz_recover.proofs.Acting.{upgrade-bad}
use Rattle.sz_bodies.proofs.HeadParts.{if_bad-weaker}
use Rattle.sz_recover.proofs.groups.act.Goals as goal

pub returns-then-kind-own : goal.returns-then-kind-own
returns-then-kind-own g c =
    let f = c.args.format.now in
    let held = c.args.catalogue.now in
    let body = c.args.body.now in
    let kind : c.args.kind ≡ version_kind f = c.if-kind-own.true ∙ c.version_kind-own.ensures in
    let did = c.act_as_version in
    record {
      ok =
          on_ok_weaker did.result
          (λ (done : (more : List Kept) × ActsAsVersion f held (entry_of (version_kind f) body) did.new.catalogue more
          × (did.new.kept.items ≡ c.args.kept.now.items ++ more)).
          (done.0, version-acts f c.args.kind held did.new.catalogue body done.0 kind done.1, done.2)) did.ensures.ok;
      format = on_ok_weaker did.result (λ done. c.requires) did.ensures.ok;
      err =
          IfErr-weaker did.result (λ e. IfBad e (NoneIsLawful f held body))
          (λ e. IfBad e (IsBad f held (entry_of c.args.kind body)))
          (λ e says. if_bad-weaker e
          (λ (none : NoneIsLawful f held body). subst (λ (k : ℕ). IsBad f held (entry_of k body))
          (sym kind) (version-bad f held body none)) says)
          did.ensures.err;
    }

pub returns-then-kind-eq-UPGRADE_KIND-clause-ok : goal.returns-then-kind-eq-UPGRADE_KIND-clause-ok
returns-then-kind-eq-UPGRADE_KIND-clause-ok g c =
    on_ok_weaker c.act_as_upgrade.result
    (λ own. (
      [],
      upgraded c.args.format.now c.act_as_upgrade.new.format c.args.kind c.args.catalogue.now
          c.args.body.now c.if-kind-eq-UPGRADE_KIND.true own,
      sym (append-nil c.args.kept.now.items),
    ))
    c.act_as_upgrade.ensures.ok

pub returns-then-kind-eq-UPGRADE_KIND-clause-err : goal.returns-then-kind-eq-UPGRADE_KIND-clause-err
returns-then-kind-eq-UPGRADE_KIND-clause-err g c =
    let f = c.args.format.now in
    let held = c.args.catalogue.now in
    let body = c.args.body.now in
    IfErr-weaker c.act_as_upgrade.result (λ e. IfBad e (f ≡ 1 → body ≡ [] → ⊥))
    (λ e. IfBad e (IsBad f held (entry_of c.args.kind body)))
    (λ e says. if_bad-weaker e
    (λ (none : f ≡ 1 → body ≡ [] → ⊥). subst (λ (k : ℕ). IsBad f held (entry_of k body))
    (sym c.if-kind-eq-UPGRADE_KIND.true) (upgrade-bad f held body none)) says)
    c.act_as_upgrade.ensures.err

pub returns-clause-ok : goal.returns-clause-ok
returns-clause-ok g c =
    let f = c.args.format.now in
    let held = c.args.catalogue.now in
    let new = c.act_as_line.new.catalogue in
    let e = entry_of c.args.kind c.args.body.now in
    on_ok_weaker c.act_as_line.result
    (λ (taken : held_behind held e ≡ Some new). (
      [],
      subst (λ (n : ℕ). Acts f held e n new [])
          (sym (other-stays f c.args.kind c.args.body.now c.if-kind-eq-UPGRADE_KIND.false))
          (line-acts f held new e taken),
      sym (append-nil c.args.kept.now.items),
    )) c.act_as_line.ensures.ok

pub returns-clause-err : goal.returns-clause-err
returns-clause-err g c =
    let f = c.args.format.now in
    let held = c.args.catalogue.now in
    let e = entry_of c.args.kind c.args.body.now in
    IfErr-weaker c.act_as_line.result (λ x. IfBad x (held_behind held e ≡ None))
    (λ x. IfBad x (IsBad f held e))
    (λ x says. if_bad-weaker x
    (λ (none : held_behind held e ≡ None). line-bad f held e
    (λ is. c.if-kind-own.false (is ∙ sym c.version_kind-own.ensures)) c.if-kind-eq-UPGRADE_KIND.false none) says)
    c.act_as_line.ensures.err

-- What is carried is that of the versions that are held.
use Rattle.std.proofs.Common.{◌≡◌, false, true, sym, subst}
use Rattle.std.proofs.lemmas.Result.{IfOk-weaker}
use Rattle.sz_catalogue.specs.Rules.{version_of, has_no_version}
use Rattle.sz_commands.specs.States.{SessionState}
use Rattle.sz_versions.specs.Stores.{Trail, IsTrailOf}
use Rattle.sz_commands.proofs.session.Session.whole_run.Goals as goal

pub whole-requires-clause-held : goal.whole-requires-clause-held
whole-requires-clause-held g c =
    λ κs lives. subst (λ (s : SessionState). has_no_version s.held c.args.version ≡ false) (sym c.self.view_is)
    c.requires.held

pub whole-requires-clause-first : goal.whole-requires-clause-first
whole-requires-clause-first g c =
    λ κs lives. subst (λ (s : SessionState). (version_of s.held c.args.version).awaited ≡ false)
    (sym c.self.view_is) c.requires.first

pub returns-clause-whole : goal.returns-clause-whole
returns-clause-whole g c =
    let n = c.args.version in
    let P : SessionState → Trail → Type 0 = λ s t. IsTrailOf (record (version_of s.held n) { awaited = true }) t in
    IfOk-weaker c.whole.result _ _
    (λ t own. subst (λ (s : SessionState). P s t) c.self.view_is own) c.whole.ensures.whole

-- What is carried is that of the versions that are held, and stays.
use Rattle.std.proofs.Common.{◌≡◌, false, refl, sym, ap, ◌∙◌, subst}
use Rattle.std.proofs.lemmas.Result.{IfOk-weaker}
use Rattle.sz_catalogue.specs.Rules.{version_of, has_no_version}
use Rattle.sz_versions.specs.Runs.{executions_of}
use Rattle.sz_commands.specs.States.{SessionState}
use Rattle.sz_commands.proofs.session.Session.runs_of.Goals as goal

pub runs-requires-clause-held : goal.runs-requires-clause-held
runs-requires-clause-held g c =
    λ κs lives. subst (λ (s : SessionState). has_no_version s.held c.args.version ≡ false) (sym c.self.view_is)
    c.requires

pub returns-clause-runs : goal.returns-clause-runs
returns-clause-runs g c =
    IfOk-weaker c.runs.result _ _
    (λ rs is. is ∙ ap (λ (s : SessionState). executions_of (version_of s.held c.args.version)) c.self.view_is)
    c.runs.ensures.runs

pub returns-clause-same : goal.returns-clause-same
returns-clause-same g c = rw (← c.self.view_is, c.runs.ensures.same) refl

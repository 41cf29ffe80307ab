-- The run is carried again as it was lent.
use Rattle.std.proofs.Common.{ap, ◌∙◌}
use Rattle.std.proofs.lemmas.Result.{IfOk-weaker}
use Rattle.sz_versions.specs.Stores.{Trail}
use Rattle.sz_versions.proofs.Lent.{kept-same}
use Rattle.sz_versions.proofs.held.HeldRun.runs.Goals as goal

pub returns-clause-runs : goal.returns-clause-runs
returns-clause-runs g c =
    IfOk-weaker c.shared-runs.result _ _ (λ rs is. is ∙ ap (λ (t : Trail). t.executions) c.in_ok-run.ensures.run)
    c.shared-runs.ensures

pub returns-clause-same : goal.returns-clause-same
returns-clause-same g c = kept-same c.args.self.now c.lend.new.self c.keep.new.self c.in_ok-run.run'
    c.in_ok-run.ensures.rest c.keep.ensures c.in_ok-run.ensures.run

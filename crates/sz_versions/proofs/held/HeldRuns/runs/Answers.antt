-- The one at the place that is found has the executions of the version, and stays.
use Rattle.std.proofs.Common.{sym, ap, ◌∙◌}
use Rattle.std.proofs.lemmas.Result.{IfOk-weaker}
use Rattle.sz_versions.specs.Runs.{executions_of}
use Rattle.sz_versions.proofs.MergedNodes.{by-runs}
use Rattle.sz_versions.proofs.MergedRuns.{same-set}
use Rattle.sz_versions.proofs.Service.{is-found}
use Rattle.sz_versions.proofs.held.HeldRuns.runs.Goals as goal

pub returns : goal.returns
returns g c =
    let h = is-found c.args.version c.found-at.result.1 c.self.view_is c.requires.service c.found-at.ensures.version
    c.found-at.ensures.place c.index_mut.ensures.value in
    let x = c.index_mut.result.now in
    record {
      runs = IfOk-weaker c.runs.result _ _
          (λ rs is. is ∙ by-runs x.logged _ x.trail h.own ∙ ap executions_of h.version) c.runs.ensures.runs;
      same = same-set c.self.inside.runs.items c.found-at.result.1 x c.runs.new.self c.index_mut.ensures.value
          c.runs.ensures.same
          ∙ c.self.view_is;
    }

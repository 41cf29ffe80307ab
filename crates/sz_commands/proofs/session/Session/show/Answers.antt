-- The runs of the version hold the outputs of its nodes.
use Rattle.std.proofs.Common.{◌≡◌, ◌<◌, List, map, length, sym, ap, ◌∙◌, arith}
use Rattle.std.proofs.lemmas.List.{length-map}
use Rattle.sz_spec.specs.Values.{Grid}
use Rattle.sz_flow.specs.Executions.{Execution, execution_of}
use Rattle.sz_catalogue.specs.Responses.{values}
use Rattle.sz_catalogue.specs.Rules.{version_of}
use Rattle.sz_versions.specs.Runs.{executions_of}
use Rattle.sz_versions.proofs.Kept.{run-at, executions-length, output-at}
use Rattle.sz_versions.proofs.Keeps.{can-show}
use Rattle.sz_commands.proofs.session.Session.show.Given.{Over}
use Rattle.sz_commands.proofs.session.Session.show.Goals.{After-deref}
use Rattle.sz_commands.proofs.session.Session.show.Goals as goal

-- the runs that are looked at are those of the version
runs-are : (g : Over) (c : After-deref g)
    → map execution_of c.deref.result.now.items ≡ executions_of (version_of c.args.self.now.held c.args.version)
runs-are g c = rw c.deref.ensures c.in_ok-runs.ensures.runs

-- and there is one at the node
within : (g : Over) (c : After-deref g) → c.args.node < length c.deref.result.now.items
within g c = omega (
  arith,
  (can-show c.args.self.now.held c.args.version c.args.node c.requires).1,
  ap (λ (es : List Execution). length es) (runs-are g c),
  length-map c.deref.result.now.items execution_of,
  executions-length (version_of c.args.self.now.held c.args.version),
)

pub runs_of-requires-after_bounds : goal.runs_of-requires-after_bounds
runs_of-requires-after_bounds g c =
    λ κs lives. (can-show c.args.self.now.held c.args.version c.args.node c.requires).0

pub index-run-requires : goal.index-run-requires
index-run-requires g c =
    let few = within g (goal.at.index-run-requires g c).After-deref in
    omega (arith, few)

pub returns-clause-reply : goal.returns-clause-reply
returns-clause-reply g c =
    let here = (goal.at.returns-clause-reply g c).After-deref in
    let v = version_of c.args.self.now.held c.args.version in
    let run = c.index-run.result.now in
    let at = run-at v c.args.node c.deref.result.now.items run (runs-are g here) (within g here) c.index-run.ensures in
    let shown = output-at v c.args.node (execution_of run) at ∙ sym c.in_ok-try_clone.ensures in
    ap (λ (a : Grid). (c.args.self.now, values a)) shown

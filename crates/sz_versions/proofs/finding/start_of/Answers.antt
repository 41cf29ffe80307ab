-- The run of the step's node holds the node's execution.
use Rattle.std.proofs.Common.{◌≡◌, ◌<◌, List, length, get_or, ap, ◌∙◌, arith}
use Rattle.sz_cells.specs.Extent.{Extent}
use Rattle.sz_spec.specs.Paths.{Step}
use Rattle.sz_spec.specs.Shapes.{Site}
use Rattle.sz_spec.specs.declared.modes.Dir.TheVariants.{Back, Forward}
use Rattle.sz_flow.specs.Executions.{execution_of}
use Rattle.sz_flow.specs.declared.node_run.NodeRun.{NodeRun}
use Rattle.sz_versions.proofs.Steps.{IsStepOf, step-of, step-input, step-starts}
use Rattle.sz_versions.proofs.Kept.{run-there, run-at, extent-read}
use Rattle.sz_versions.proofs.finding.start_of.Goals.{After-runs}
use Rattle.sz_versions.proofs.finding.start_of.Goals as goal

-- there is a run at the step's node
within : (c : After-runs) → c.args.step.node < length c.runs.result.now
within c =
    run-there c.args._version.now c.args.step c.runs.result.now c.requires.sound c.requires.there
    (c.runs.ensures ∙ c.requires.run.executions)

-- and it holds the execution of the step
step : (c : After-runs) (run : NodeRun) → run ≡ get_or c.runs.result.now c.args.step.node run
    → IsStepOf c.args._version.now c.args.step (execution_of run)
step c run is =
    let v = c.args._version.now in
    step-of v c.args.step (execution_of run) c.requires.sound c.requires.there
    (run-at v c.args.step.node c.runs.result.now run (c.runs.ensures ∙ c.requires.run.executions) (within c) is)

pub bounds-runs-step-inside : goal.bounds-runs-step-inside
bounds-runs-step-inside c =
    let there = within (goal.at.bounds-runs-step-inside c).After-runs in
    let node : c.step.inside.node ≡ c.args.step.node = ap (λ (s : Step). s.node) c.step.view_is in
    omega (arith, there, node)

pub bounds-ins-step-inside : goal.bounds-ins-step-inside
bounds-ins-step-inside c =
    let run = c.index-runs-step.result in
    let node : c.step.inside.node ≡ c.args.step.node = ap (λ (s : Step). s.node) c.step.view_is in
    let h = step (goal.at.bounds-ins-step-inside c).After-runs run (rw node at c.index-runs-step.is) in
    let few = step-input c.args._version.now c.args.step (execution_of run) h in
    let input : c.step.inside.input ≡ c.args.step.input = ap (λ (s : Step). s.input) c.step.view_is in
    let ins = ap (λ (es : List Extent). length es) (c.ins.ensures.value
    ∙ ap (λ (x : Site). x.ins) c.deref-in-Forward.ensures) in
    omega (arith, few, ins, input)

pub returns-in-Back : goal.returns-in-Back
returns-in-Back c =
    let run = c.index-runs-step.result in
    let node : c.step.inside.node ≡ c.args.step.node = ap (λ (s : Step). s.node) c.step.view_is in
    let h = step (goal.at.returns-in-Back c).After-runs run (rw node at c.index-runs-step.is) in
    rw c.in-Back.is (c.out.ensures.value ∙ ap (λ (x : Site). x.out) c.deref.ensures
    ∙ step-starts c.args._version.now c.args.step (execution_of run) Back c.requires.sound h)

pub returns-in-Forward : goal.returns-in-Forward
returns-in-Forward c =
    let v = c.args._version.now in
    let run = c.index-runs-step.result in
    let node : c.step.inside.node ≡ c.args.step.node = ap (λ (s : Step). s.node) c.step.view_is in
    let h = step (goal.at.returns-in-Forward c).After-runs run (rw node at c.index-runs-step.is) in
    let input : c.step.inside.input ≡ c.args.step.input = ap (λ (s : Step). s.input) c.step.view_is in
    let ins = c.ins.ensures.value ∙ ap (λ (x : Site). x.ins) c.deref-in-Forward.ensures in
    let read = rw (ins, input) at c.index-ins-step.is in
    rw c.in-Forward.is (extent-read _ c.args.step.input c.index-ins-step.result
    (step-input v c.args.step (execution_of run) h) read
    ∙ step-starts v c.args.step (execution_of run) Forward c.requires.sound h)

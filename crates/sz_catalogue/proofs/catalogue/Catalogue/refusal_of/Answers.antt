-- Each command is judged by its own rules.
use Rattle.std.proofs.Common.{ap, ap₂, sym, ◌∙◌, List, ℕ}
use Rattle.std.proofs.lemmas.Result.{IfOk-weaker}
use Rattle.sz_script.specs.declared.command.BaseName.{BaseName}
use Rattle.sz_script.specs.declared.command.Command.TheVariants as command
use Rattle.sz_catalogue.specs.Rules.{judged}
use Rattle.sz_catalogue.proofs.catalogue.Catalogue.refusal_of.Goals as goal

pub returns-in-Array : goal.returns-in-Array
returns-in-Array c =
    c.refusal_of_array.ensures.one c.in-Array.name ∙ ap (judged c.args.self.now) (sym c.in-Array.is)

pub returns-in-Csv : goal.returns-in-Csv
returns-in-Csv c =
    c.refusal_of_array-in-Csv.ensures.csv c.in-Csv.name ∙ ap (judged c.args.self.now) (sym c.in-Csv.is)

pub returns-in-Layers : goal.returns-in-Layers
returns-in-Layers c =
    c.refusal_of_array-in-Layers.ensures.layers c.in-Layers.name ∙ ap (judged c.args.self.now) (sym c.in-Layers.is)

pub returns-in-Flow : goal.returns-in-Flow
returns-in-Flow c =
    c.refusal_of_flow.ensures c.in-Flow.flow
    ∙ ap (λ (name : List ℕ). judged c.args.self.now (command.Flow name c.in-Flow.flow)) c.as_str.ensures
    ∙ ap (judged c.args.self.now) (sym c.in-Flow.is)

pub returns-in-Start : goal.returns-in-Start
returns-in-Start c =
    IfOk-weaker c.refusal_of_start.result _ _
    (λ r p. p
    ∙ ap₂ (λ (name : List ℕ) (base : List BaseName). judged c.args.self.now (command.Start name base))
    c.as_str-in-Start.ensures c.as_slice-in-Start.ensures
    ∙ ap (judged c.args.self.now) (sym c.in-Start.is))
    c.refusal_of_start.ensures

pub returns-in-Plan : goal.returns-in-Plan
returns-in-Plan c =
    let units = c.in-Plan.units in
    let back = c.in-Plan.back in
    let forward = c.in-Plan.forward in
    IfOk-weaker c.refusal_of_plan.result _ _
    (λ r p. p
    ∙ ap₂ (λ (name : List ℕ) (base : List BaseName). judged c.args.self.now (command.Plan name base units back forward))
    c.as_str-in-Plan.ensures c.as_slice-in-Plan.ensures
    ∙ ap (judged c.args.self.now) (sym c.in-Plan.is))
    (c.refusal_of_plan.ensures back forward)

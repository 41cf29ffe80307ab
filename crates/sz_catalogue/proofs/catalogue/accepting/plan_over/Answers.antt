-- The best choice is one, and the list that is read off is it.
use Rattle.std.proofs.Common.{◌≡◌, ℕ, List, ap, ap₂, ◌∙◌}
use Rattle.sz_spec.specs.declared.modes.Strategy.{Strategy}
use Rattle.sz_planner.specs.Choices.{cost_of, units_of}
use Rattle.sz_planner.specs.Costs.{list_within}
use Rattle.sz_catalogue.specs.Responses.{planned}
use Rattle.sz_catalogue.proofs.catalogue.accepting.plan_over.Goals as goal

pub returns : goal.returns
returns c =
    let sites = c.args.sites.now in
    let back = c.args.back in
    let forward = c.args.forward in
    let list : List Strategy = c.in_ok-planned.planned.list in
    let best = list_within back forward sites c.args.units in
    let same : list ≡ best = c.best_choices_are_one.ensures back forward c.args.units sites list best
    c.in_ok-planned.ensures.best (c.lists_are_best_choices.ensures back forward c.args.units sites) in
    ap₂ (λ (cost units : ℕ). planned cost units list) c.in_ok-planned.ensures.cost c.in_ok-planned.ensures.units
    ∙ ap (λ (l : List Strategy). planned (cost_of back forward sites l) (units_of sites l) l) same

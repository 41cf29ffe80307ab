-- What refuses the start refuses the plan, but want of room; where nothing else does, the units decide.
use Rattle.std.proofs.Common.{sym, ◌∙◌}
use Rattle.sz_catalogue.proofs.Judging.{plan-by_units, plan-as_start}
use Rattle.sz_catalogue.proofs.catalogue.Catalogue.refusal_of_plan.Goals as goal

pub returns-then-is_open : goal.returns-then-is_open
returns-then-is_open c = λ back forward.
    c.refusal_of_units.ensures
    ∙ sym (plan-by_units c.args.self.now c.args.name.now c.args.base.now c.args.units back forward
    c.in_ok-refusal.refusal (sym c.is_open.ensures ∙ c.if-is_open.true) c.in_ok-refusal.ensures)

pub returns : goal.returns
returns c = λ back forward.
    sym (plan-as_start c.args.self.now c.args.name.now c.args.base.now c.args.units back forward
    c.in_ok-refusal.refusal (sym c.is_open.ensures ∙ c.if-is_open.false) c.in_ok-refusal.ensures)

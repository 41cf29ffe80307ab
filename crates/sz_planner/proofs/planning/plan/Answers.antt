-- The key idea: the list that is read off is the best choice, and the table's last row has its cost.
use Rattle.std.proofs.Common.{◌≡◌, ◌-◌, length, get_or, sym, ap, ◌∙◌, arith}
use Rattle.std.proofs.lemmas.List.{get_or_read}
use Rattle.sz_planner.proofs.Best.{all-best, all-read}
use Rattle.sz_planner.proofs.planning.plan.Goals as goal

pub returns-clause-best : goal.returns-clause-best
returns-clause-best c =
    rw (c.of.ensures, c.in_ok-list.ensures.list) (all-best c.args.back c.args.forward c.args.nodes.now c.args.units)

pub returns-clause-cost : goal.returns-clause-cost
returns-clause-cost c =
    let w = c.index.result.now in
    let nodes = c.args.nodes.now in
    let row = c.in_ok-table.ensures.costs (length nodes) w (omega arith) in
    let all : length nodes - length nodes ≡ 0 = omega arith in
    let last : (get_or c.in_ok-table.table.items (length nodes) w).items ≡ w.items =
    ap (λ v. v.items) (sym c.index.ensures) in
    let costs = rw (all, last) at row in
    let cost : c.index-cost.result.now ≡ get_or w.items c.args.units 0 =
    get_or_read w.items c.args.units c.index-cost.result.now (omega (arith, costs.len)) c.index-cost.ensures 0 in
    let read = all-read c.args.back c.args.forward nodes c.args.units in
    rw (c.of.ensures, c.in_ok-list.ensures.list)
    (cost ∙ (costs.least c.args.units (omega arith) ∙ sym read.least))

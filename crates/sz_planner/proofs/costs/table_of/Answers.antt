-- The key idea: one node more, the one before those that are done.
use Rattle.std.proofs.Common.{◌≡◌, ◌∷◌, [], ℕ, get_or, List, refl, subst, arith, rules, replicate, ◌+◌}
use Rattle.std.proofs.lemmas.Grind.{common_steps}
use Rattle.sz_planner.specs.Costs.{AreCostsOver}
use Rattle.sz_planner.proofs.Tables.{table-none, table-more}
use Rattle.sz_planner.proofs.costs.table_of.Goals as goal

pub loop-done-init : goal.loop-done-init
loop-done-init c =
    let one : c.push.new.self.items ≡ c.in_ok-vec.field-0 ∷ [] =
    rw (c.in_ok-push.ensures.items, c.in_ok-table.ensures.items) refl in
    let zeros : c.in_ok-vec.field-0.items ≡ replicate (c.args.limit + 1) 0 = search rules in
    record {
      len = rw one refl;
      costs = table-none c.args.asks.back c.args.asks.forward c.args.limit c.args.nodes.now c.push.new.self.items
          c.in_ok-vec.field-0 one zeros;
    }

pub loop-done-preserved : goal.loop-done-preserved
loop-done-preserved c =
    let w = c.index.result.now in
    let behind : c.deref.result.now ≡ (get_or c.loop-done.table.items c.loop-done.done w).items =
    rw (← c.index.ensures) c.deref.ensures.value in
    let P : List ℕ → Type 0 = λ xs. AreCostsOver c.args.asks.back c.args.asks.forward c.index-nodes-nodes.result xs
    c.args.limit c.in_ok-costs.costs.items in
    record {
      len = rw c.in_ok-push-2.ensures.items (grind (arith, common_steps));
      costs = rw c.in_ok-push-2.ensures.items
          (table-more c.args.asks.back c.args.asks.forward c.args.limit c.args.nodes.now c.loop-done.done
          c.index-nodes-nodes.result c.loop-done.table.items c.in_ok-costs.costs w (omega arith)
          c.loop-done.invariant.len c.index-nodes-nodes.is c.loop-done.invariant.costs
          (subst P behind c.in_ok-costs.ensures));
    }

-- The key idea: the offer over the table's row is the next of the list.
use Rattle.std.proofs.Common.{◌≡◌, ◌≤◌, ◌+◌, ◌-◌, ◌++◌, [], ℕ, List, length, drop, get_or, sym, ap, ◌∙◌}
use Rattle.std.proofs.Common.{arith}
use Rattle.std.proofs.lemmas.List.{append-nil, drop_all}
use Rattle.sz_spec.specs.declared.modes.Strategy.{Strategy}
use Rattle.sz_spec.specs.Shapes.{Site}
use Rattle.sz_planner.specs.Costs.{list_within}
use Rattle.sz_planner.proofs.Tables.{IsNext, next-found, drop-next, list-more, units-more}
use Rattle.sz_planner.proofs.reading.list_within.Goals as goal

-- what is taken at this node
next-is : (c : goal.After-struct_known-1)
    → IsNext c.args.asks.back c.args.asks.forward c.index-nodes-done.result
    (drop (c.loop-done.done + 1) c.args.nodes.now) c.loop-done.left c.in_ok-offer.offer
next-is c =
    let w = c.index-table-nodes.result in
    let n = length c.args.nodes.now in
    let back = c.args.asks.back in
    let forward = c.args.asks.forward in
    let row = c.requires.table.costs (n - 1 - c.loop-done.done) w (omega arith) in
    let place : n - (n - 1 - c.loop-done.done) ≡ c.loop-done.done + 1 = omega arith in
    let behind : (get_or c.args.table.now (n - 1 - c.loop-done.done) w).items ≡ c.deref.result.now =
    ap (λ v. v.items) (sym c.index-table-nodes.is) ∙ sym c.deref.ensures.value in
    next-found back forward c.index-nodes-done.result (drop (c.loop-done.done + 1) c.args.nodes.now) c.args.limit
    c.loop-done.left c.deref.result.now c.in_ok-offer.offer (rw (place, behind) at row) c.loop-done.invariant.left
    c.in_ok-offer.ensures.value

pub overflow_sub-left : goal.overflow_sub-left
overflow_sub-left c = let next = next-is c in next.fits

pub loop-done-preserved : goal.loop-done-preserved
loop-done-preserved c =
    let next = next-is c in
    let back = c.args.asks.back in
    let forward = c.args.asks.forward in
    let nodes = c.args.nodes.now in
    let cut = drop-next nodes c.loop-done.done c.index-nodes-done.result (omega arith) c.index-nodes-done.is in
    record {
      list = rw c.in_ok-push.ensures.items
          (list-more back forward c.index-nodes-done.result (drop (c.loop-done.done + 1) nodes) c.loop-done.left
          c.in_ok-offer.offer c.loop-done.list.items _ next (rw cut at c.loop-done.invariant.list));
      left = omega arith;
      units = units-more back forward c.index-nodes-done.result (drop (c.loop-done.done + 1) nodes) c.args.limit
          c.loop-done.left c.in_ok-offer.offer _ next c.loop-done.invariant.left
          (rw cut at c.loop-done.invariant.units);
    }

-- at the end no node is left
list-whole : (back forward : ℕ) (sites : List Site) (done left : ℕ) (list all : List Strategy)
    → length sites ≤ done → list ++ list_within back forward (drop done sites) left ≡ all → list ≡ all
unfolding list_within
list-whole back forward sites done left list all end is =
    let whole : list ++ [] ≡ all = rw (drop_all done sites end) at is in
    sym (append-nil list) ∙ whole

pub returns-clause-list : goal.returns-clause-list
returns-clause-list c =
    list-whole c.args.asks.back c.args.asks.forward c.args.nodes.now c.loop-done.done c.loop-done.left _ _ (omega arith)
    c.loop-done.invariant.list

pub returns-clause-units : goal.returns-clause-units
returns-clause-units c =
    let whole = list-whole c.args.asks.back c.args.asks.forward c.args.nodes.now c.loop-done.done c.loop-done.left
    c.loop-done.list.items _ (omega arith) c.loop-done.invariant.list in
    let none : drop c.loop-done.done c.args.nodes.now ≡ [] =
    drop_all c.loop-done.done c.args.nodes.now (omega arith) in
    let units = rw none at c.loop-done.invariant.units in
    rw whole (omega (arith, units))

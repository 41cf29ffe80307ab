-- The key idea: the table so far is that of the last nodes.
use Rattle.std.proofs.Common.{◌≡◌, ◌≤◌, ◌+◌, ◌-◌, ℕ, length, drop, get_or, Vec, Global}
use Rattle.sz_planner.specs.Costs.{AreLeastCosts}
use Rattle.sz_planner.proofs.costs.table_of.Given as goal

abbrev pub invariant-loop-done : goal.invariant-loop-done
invariant-loop-done l = record {
  len : length l.table.items ≡ l.done + 1;
  costs : (j : ℕ) (d : Vec ℕ Global) → j ≤ l.done → AreLeastCosts l.asks.back l.asks.forward
      (drop (length l.nodes - j) l.nodes) l.limit (get_or l.table.items j d).items;
}

-- The key idea: the list so far with that of the nodes left, within the units left, is the whole list.
use Rattle.std.proofs.Common.{◌≡◌, ◌≤◌, ◌+◌, ◌-◌, ◌++◌, drop}
use Rattle.sz_planner.specs.Choices.{units_of}
use Rattle.sz_planner.specs.Costs.{list_within}
use Rattle.sz_planner.proofs.reading.list_within.Given as goal

abbrev pub invariant-loop-done : goal.invariant-loop-done
invariant-loop-done l = let rest = drop l.done l.nodes in
    let others = list_within l.asks.back l.asks.forward rest l.left in record {
      list : l.list.items ++ others ≡ list_within l.asks.back l.asks.forward l.nodes l.limit;
      left : l.left ≤ l.limit;
      units : units_of l.nodes (list_within l.asks.back l.asks.forward l.nodes l.limit)
          ≡ (l.limit - l.left) + units_of rest others;
    }

-- The key idea: the costs so far are those of the units so far.
use Rattle.std.proofs.Common.{◌≡◌, ◌<◌, ℕ, slice_index, length}
use Rattle.sz_planner.specs.Costs.{cost_over}
use Rattle.sz_planner.proofs.costs.costs_over.Given as goal

abbrev pub invariant-loop-units : goal.invariant-loop-units
invariant-loop-units l = record {
  len : length l.costs.items ≡ l.units;
  least : (u : ℕ) → u < l.units → slice_index l.costs.items u
      ≡ cost_over l.fn.asks.back l.fn.asks.forward l.node (λ left. slice_index l.behind left) u;
}

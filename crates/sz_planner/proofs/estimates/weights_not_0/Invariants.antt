-- The key idea: the weights so far that are not 0 are the taps of their places.
use Rattle.std.proofs.Common.{◌≡◌, ◌≤◌, length, map}
use Rattle.std.specs.Prelude.{not}
use Rattle.std.specs.List.{filter, range_with_len}
use Rattle.sz_spec.specs.Weights.{Tap, is_zero, tap_at}
use Rattle.sz_planner.proofs.estimates.weights_not_0.Given as goal

abbrev pub invariant-loop-weight : goal.invariant-loop-weight
invariant-loop-weight l = record {
  count : l.count ≡ length (filter (λ (t : Tap). not (is_zero t.weight))
      (map (tap_at l.kernel) (range_with_len 0 l.weight-index)));
  few : l.count ≤ l.weight-index;
}

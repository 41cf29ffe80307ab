-- No weight so far is heavier, and none is more than 2^31.
use Rattle.std.proofs.Common.{ℕ, ◌<◌, ◌≤◌, ◌^◌}
use Rattle.std.specs.Int.RustNames.{unsigned_abs}
use Rattle.sz_spec.specs.Weights.{tap_at}
use Rattle.sz_ops_window.proofs.sweep.limits_of.Given as goal

abbrev pub invariant-loop-number : goal.invariant-loop-number
invariant-loop-number l = record {
  each : (n : ℕ) → n < l.number → unsigned_abs (tap_at l.mask n).weight ≤ l.weight;
  some : 1 ≤ l.weight;
  most : l.weight ≤ 2 ^ 31;
}

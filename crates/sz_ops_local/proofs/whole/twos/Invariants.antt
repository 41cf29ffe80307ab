-- The values so far are made of those before this place, and there is room for the others.
use Rattle.std.proofs.Common.{◌≡◌, ◌≤◌, map, length, take, min}
use Rattle.std.specs.Prelude.{vec_len, vec_capacity}
use Rattle.std.specs.List.{zip}
use Rattle.sz_spec.specs.Values.{with_numbers}
use Rattle.sz_ops_local.proofs.whole.twos.Given as goal

abbrev pub invariant-loop-k : goal.invariant-loop-k
invariant-loop-k g l = record {
  made : l.values.items ≡ map (λ p. with_numbers (g.F.OfTwo.made l.f) p.0 p.1) (take l.k (zip l.first l.second));
  count : vec_len l.values ≡ l.k;
  room : min (length l.first) (length l.second) ≤ vec_capacity l.values;
}

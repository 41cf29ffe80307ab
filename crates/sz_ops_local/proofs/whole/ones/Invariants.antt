-- The values so far are made of those before this place, and there is room for the others.
use Rattle.std.proofs.Common.{◌≡◌, ◌≤◌, map, length, take}
use Rattle.std.specs.Prelude.{vec_len, vec_capacity}
use Rattle.sz_spec.specs.Values.{with_number}
use Rattle.sz_ops_local.proofs.whole.ones.Given as goal

abbrev pub invariant-loop-k : goal.invariant-loop-k
invariant-loop-k g l = record {
  made : l.values.items ≡ map (with_number (g.F.OfOne.made l.f)) (take l.k l.first);
  count : vec_len l.values ≡ l.k;
  room : length l.first ≤ vec_capacity l.values;
}

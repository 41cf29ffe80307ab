-- The key idea: as many noughts as turns, in a list that never grows.
use Rattle.std.proofs.Common.{◌≡◌}
use Rattle.std.specs.Prelude.{replicate, vec_len, vec_capacity}
use Rattle.sz_tables.proofs.chains.no_heads.Given as goal

abbrev pub invariant-loop : goal.invariant-loop
invariant-loop l = record {
  made : l.heads.items ≡ replicate l.counter 0;
  count : vec_len l.heads ≡ l.counter;
  capacity : vec_capacity l.heads ≡ l.keys;
}

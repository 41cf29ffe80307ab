-- Key idea: each piece so far is claimed or met, and the list of claimed pieces grew by as many as were won.
use Rattle.std.proofs.Common.{◌≡◌, ◌+◌, ◌<◌, ◌≤◌, ◌⊎◌, ℕ, Contains, length}
use Rattle.trials_edges.proofs.tests.claims.claim_all.Given as goal

abbrev pub invariant-loop-piece : goal.invariant-loop-piece
invariant-loop-piece l = record {
  own : l.pass.table ≡ l.initial.pass.table;
  same : l.claims ≡ l.initial.claims;
  won : length l.pass.claimed ≡ length l.initial.pass.claimed + l.won;
  some : l.won ≤ l.piece;
  every : (piece : ℕ) → piece < l.piece → Contains l.pass.claimed piece ⊎ Contains l.pass.met piece;
}

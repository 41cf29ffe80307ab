-- The pieces before this one are placed.
use Rattle.std.proofs.Common.{◌≡◌, ℕ, ◌<◌, true}
use Rattle.sz_store.specs.Kept.{is_placed}
use Rattle.sz_store.proofs.NodeStore.missing.Given as goal

abbrev pub invariant-loop-placed : goal.invariant-loop-placed
invariant-loop-placed l = record {
  count : l.piece ≡ l.placed-index;
  before : (k : ℕ) → k < l.placed-index → is_placed l.self.placed k ≡ true;
}

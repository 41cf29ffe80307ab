-- The stores before the index are of other strategies.
use Rattle.std.proofs.Common.{◌≡◌, ℕ, ◌<◌, ◌==◌, false}
use Rattle.std.specs.Prelude.{slice_index_or}
use Rattle.sz_spec.specs.Modes.{number_of}
use Rattle.sz_store.specs.declared.stores.ListedStore.{ListedStore}
use Rattle.sz_store.proofs.stores.place_of.Given as goal

abbrev pub invariant-loop-place : goal.invariant-loop-place
invariant-loop-place l = (k : ℕ) (d : ListedStore) → k < l.place
    → (number_of (slice_index_or l.stores k d).strategy == number_of l.strategy) ≡ false

-- The stores before the index have the lineage, and those from it on are as they were.
use Rattle.std.proofs.Common.{◌≡◌, ℕ, ◌<◌, ◌≤◌, length, map}
use Rattle.std.specs.Prelude.{slice_index_or}
use Rattle.sz_store.specs.Kept.{keep_with}
use Rattle.sz_store.specs.Stocks.{keep_of, site_of, capacities_of}
use Rattle.sz_store.specs.declared.stores.ListedStore.{ListedStore}
use Rattle.sz_store.proofs.stores.add_all.Given as goal

abbrev pub invariant-loop-store : goal.invariant-loop-store
invariant-loop-store l = record {
  count : length l.stores ≡ length l.initial.stores;
  done : (k : ℕ) (d : ListedStore) → k < l.store-index
      → keep_of (slice_index_or l.stores k d) ≡ keep_with l.lineage (keep_of (slice_index_or l.initial.stores k d));
  ahead : (k : ℕ) (d : ListedStore) → l.store-index ≤ k
      → slice_index_or l.stores k d ≡ slice_index_or l.initial.stores k d;
  sites : map site_of l.stores ≡ map site_of l.initial.stores;
  capacities : map capacities_of l.stores ≡ map capacities_of l.initial.stores;
}

-- The bytes of the stores before the index stand behind those that were there.
use Rattle.std.proofs.Common.{◌≡◌, ℕ, List, ◌++◌, map, take, All}
use Rattle.sz_spec.specs.Shapes.{Site}
use Rattle.sz_store.specs.Stocks.{keep_of, site_of}
use Rattle.sz_store.specs.Words.{AreWordsOf}
use Rattle.sz_store.proofs.stores.put_all.Given as goal

abbrev pub invariant-loop-store : goal.invariant-loop-store
invariant-loop-store l = record {
  front : (more : List ℕ) × (l.to.items ≡ l.initial.to.items ++ more);
  words : (s : Site) → All (λ x. x ≡ s) (map site_of l.stores)
      → (bytes : List ℕ) × AreWordsOf s (take l.store-index (map keep_of l.stores)) bytes
      × (l.to.items ≡ l.initial.to.items ++ bytes);
}

-- There is a store for each stored strategy before the index.
use Rattle.std.proofs.Common.{◌≡◌, map, take, All}
use Rattle.std.specs.Arc.{arc_value}
use Rattle.sz_store.specs.Kept.{empty_keep, stored_in}
use Rattle.sz_store.specs.Stocks.{keep_of, site_of}
use Rattle.sz_store.proofs.stores.empty_stores.Given as goal

abbrev pub invariant-loop-strategy : goal.invariant-loop-strategy
invariant-loop-strategy l = record {
  stores : map keep_of l.stores.items ≡ map empty_keep (stored_in (take l.strategy-index l.list));
  sites : All (λ s. s ≡ arc_value l.at) (map site_of l.stores.items);
}

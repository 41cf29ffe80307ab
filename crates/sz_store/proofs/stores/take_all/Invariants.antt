-- The stores of the stored strategies before the index are read, one after another.
use Rattle.std.proofs.Common.{◌≡◌, map, take, All}
use Rattle.std.specs.Arc.{arc_value}
use Rattle.sz_store.specs.Kept.{stored_in}
use Rattle.sz_store.specs.Stocks.{keep_of, site_of}
use Rattle.sz_store.specs.Words.{BeginEach}
use Rattle.sz_store.proofs.stores.take_all.Given as goal

abbrev pub invariant-loop-strategy : goal.invariant-loop-strategy
invariant-loop-strategy g l = record {
  read : BeginEach (arc_value l.at) (stored_in (take l.strategy-index l.list)) l.bytes l.from l.place
      (map keep_of l.stores.items);
  sites : All (λ s. s ≡ arc_value l.at) (map site_of l.stores.items);
}

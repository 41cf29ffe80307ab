-- The stores keep what they kept, and those before the index have the room.
use Rattle.std.proofs.Common.{◌≡◌, All, map}
use Rattle.std.specs.List.{AllWithin}
use Rattle.sz_store.specs.Stocks.{stock_of, keep_of, site_of, CanGrow, HasRoomFor}
use Rattle.sz_store.proofs.stores.reserve_all.Given as goal

abbrev pub invariant-loop-store : goal.invariant-loop-store
invariant-loop-store l = record {
  grow : All (λ x. CanGrow l.lineage (stock_of x.kept)) l.stores;
  stores : map keep_of l.stores ≡ map keep_of l.initial.stores;
  sites : map site_of l.stores ≡ map site_of l.initial.stores;
  room : AllWithin (λ x. HasRoomFor l.lineage (stock_of x.kept)) l.stores 0 l.store-index;
}

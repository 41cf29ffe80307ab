-- A store that has got room keeps what it kept.
use Rattle.std.proofs.Common.{◌<◌, length, ◌∙◌, arith}
use Rattle.std.proofs.Math.Seq.{map-set_same}
use Rattle.std.proofs.lemmas.List.Elements.{All-set, AllWithin-more_set}
use Rattle.sz_store.specs.Stocks.{stock_of, keep_of, site_of, CanGrow, HasRoomFor}
use Rattle.sz_store.specs.declared.stores.ListedStore.{ListedStore}
use Rattle.sz_store.proofs.stores.reserve_all.Goals as goal

pub returns-in_err-reserve-clause-stores : goal.returns-in_err-reserve-clause-stores
returns-in_err-reserve-clause-stores c =
    map-set_same keep_of c.loop-store.stores c.loop-store.store-index c.reserve.new.self c.store-item.result
    c.in_err-reserve.ensures.keep
    ∙ c.loop-store.invariant.stores

pub returns-in_err-reserve-clause-sites : goal.returns-in_err-reserve-clause-sites
returns-in_err-reserve-clause-sites c =
    map-set_same site_of c.loop-store.stores c.loop-store.store-index c.reserve.new.self c.store-item.result
    c.in_err-reserve.ensures.site
    ∙ c.loop-store.invariant.sites

pub loop-store-preserved : goal.loop-store-preserved
loop-store-preserved c =
    let stores = c.loop-store.stores in
    let i = c.loop-store.store-index in
    let new = c.reserve.new.self in
    let inside : i < length stores = omega arith in
    let inv = c.loop-store.invariant in
    record {
      grow =
          All-set (λ (x : ListedStore). CanGrow c.args.lineage.now (stock_of x.kept)) stores i new
          c.in_ok-reserve.ensures.grow inv.grow;
      stores = map-set_same keep_of stores i new c.store-item.result c.in_ok-reserve.ensures.keep ∙ inv.stores;
      sites = map-set_same site_of stores i new c.store-item.result c.in_ok-reserve.ensures.site ∙ inv.sites;
      room =
          AllWithin-more_set stores i new inside (λ (x : ListedStore). HasRoomFor c.args.lineage.now (stock_of x.kept))
          inv.room c.in_ok-reserve.ensures.room;
    }

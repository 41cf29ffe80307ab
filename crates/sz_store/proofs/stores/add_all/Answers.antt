-- One store more has the lineage, and those behind it are as they were.
use Rattle.std.proofs.Common.{◌<◌, length, ◌∙◌, arith, length-set}
use Rattle.std.proofs.Math.Seq.{map-set_same}
use Rattle.sz_store.specs.Stocks.{site_of, capacities_of}
use Rattle.sz_store.proofs.Listed.{all-with, done-more, ahead-more}
use Rattle.sz_store.proofs.stores.add_all.Goals as goal

pub loop-store-preserved : goal.loop-store-preserved
loop-store-preserved c =
    let stores = c.loop-store.stores in
    let i = c.loop-store.store-index in
    let new = c.add.new.self in
    let inside : i < length stores = omega arith in
    let inv = c.loop-store.invariant in
    record {
      count = length-set stores i new ∙ inv.count;
      done =
          done-more c.args.lineage.now stores c.args.stores.now i c.store-item.result new inside inv.count inv.done
          inv.ahead c.add.ensures.keep;
      ahead = ahead-more stores c.args.stores.now i new inv.ahead;
      sites = map-set_same site_of stores i new c.store-item.result c.add.ensures.site ∙ inv.sites;
      capacities =
          map-set_same capacities_of stores i new c.store-item.result c.add.ensures.capacities ∙ inv.capacities;
    }

pub returns-clause-stores : goal.returns-clause-stores
returns-clause-stores c =
    let inv = c.loop-store.invariant in
    let count = inv.count in
    all-with c.args.lineage.now c.loop-store.stores c.args.stores.now count
    (λ k d below. inv.done k d (omega arith))

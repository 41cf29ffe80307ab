-- What is so of each store of a node is so of all.
use Rattle.std.proofs.Common.{◌≡◌, map, subst, All}
use Rattle.sz_store.specs.Kept.{NodeLineage, stored_in}
use Rattle.sz_store.specs.Stocks.{IsOfItsMode}
use Rattle.sz_store.proofs.NodeStore.stores.Goals as goal

pub returns-clause-strategies : goal.returns-clause-strategies
returns-clause-strategies c =
    subst (λ (x : NodeLineage). map (λ f. f.strategy) x.stores ≡ stored_in x.list) c.self.view_is
    c.self.invariant.stored

pub returns-clause-modes : goal.returns-clause-modes
returns-clause-modes c =
    subst (λ (x : NodeLineage). All IsOfItsMode x.stores) c.self.view_is
    (λ k d inside. (c.self.invariant.each k d inside).mode)

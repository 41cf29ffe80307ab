-- Open stores are made of the lineages of the placed pieces, and shared ones stand for the relation.
use Rattle.std.proofs.Common.{◌≡◌, true, subst, sym}
use Rattle.sz_store.specs.Kept.{NodeLineage}
use Rattle.sz_shelf.specs.Tags.{StandsFor}
use Rattle.sz_shelf.specs.Placed.{StandsOnPlaced}
use Rattle.sz_shelf.specs.Contents.{Contents}
use Rattle.sz_shelf.proofs.Stores.{stores-placed, stores-whole}
use Rattle.sz_shelf.proofs.shelved.Shelved.standing.Goals as goal

pub returns-clause-placed : goal.returns-clause-placed
returns-clause-placed c =
    let s = c.args.self.now in
    subst (λ (kept : NodeLineage). StandsOnPlaced s.tag s.placed kept) (sym c.of.ensures)
    (subst (λ (x : Contents). StandsOnPlaced x.tag x.placed c.store.result.now) c.self.view_is
    (stores-placed c.self.inside.tag.value c.self.inside.placed.items c.self.inside.sealed c.self.inside.stored
    c.store.result.now c.self.invariant.0.whole c.self.invariant.0.stores c.store.ensures))

pub returns-clause-whole : goal.returns-clause-whole
returns-clause-whole c =
    let s = c.args.self.now in
    subst (λ (kept : NodeLineage). s.sealed ≡ true → StandsFor s.tag kept) (sym c.of.ensures)
    (subst (λ (x : Contents). x.sealed ≡ true → StandsFor x.tag c.store.result.now) c.self.view_is
    (λ sealed.
    stores-whole c.self.inside.tag.value c.self.inside.placed.items c.self.inside.sealed c.self.inside.stored
    c.store.result.now (c.self.invariant.0.whole sealed) c.self.invariant.0.stores c.store.ensures))

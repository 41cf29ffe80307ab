-- Sealed stores, open or shared, stand for the relation.
use Rattle.std.proofs.Common.{◌≡◌, true, subst, sym}
use Rattle.sz_shelf.specs.Tags.{StandsFor}
use Rattle.sz_shelf.specs.Contents.{Contents}
use Rattle.sz_shelf.proofs.Stores.{stores-whole}
use Rattle.sz_shelf.proofs.shelved.Shelved.store.Goals as goal

pub returns : goal.returns
returns c =
    let sealed : c.self.inside.sealed ≡ true =
    subst (λ (x : Contents). x.sealed ≡ true) (sym c.self.view_is) c.requires in
    subst (λ (x : Contents). StandsFor x.tag c.store.result.now) c.self.view_is
    (stores-whole c.self.inside.tag.value c.self.inside.placed.items c.self.inside.sealed c.self.inside.stored
    c.store.result.now (c.self.invariant.0.whole sealed) c.self.invariant.0.stores c.store.ensures)

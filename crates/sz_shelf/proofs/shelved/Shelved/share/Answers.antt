-- The stores are sealed, so every piece is placed; shared, they stand for the relation.
use Rattle.std.proofs.Common.{◌≡◌, Bool, true, Some, IfOk, subst, sym}
use Rattle.std.specs.Arc.{arc_value}
use Rattle.std.proofs.lemmas.Result.{IfOk-weaker}
use Rattle.sz_shelf.specs.Tags.{StandsFor}
use Rattle.sz_shelf.specs.Contents.{Contents}
use Rattle.sz_shelf.specs.Keeping.{AreStores, IsSharedFrom, store_in}
use Rattle.sz_shelf.specs.declared.stored.Stored.{Stored}
use Rattle.sz_shelf.proofs.Stores.{stores-shared, stores-whole}
use Rattle.sz_shelf.proofs.Apart.{apart-shared}
use Rattle.sz_shelf.proofs.shelved.Shelved.share.Goals as goal

pub invariant_of-self : goal.invariant_of-self
invariant_of-self c =
    let t = c.self.inside.tag.value in
    let placed = c.self.inside.placed.items in
    let old = c.self.inside.stored in
    let new = c.share-stored.result.0 in
    let sealed : c.self.inside.sealed ≡ true =
    subst (λ (x : Contents). x.sealed ≡ true) (sym c.self.view_is) c.requires in
    let from : IsSharedFrom old new =
    subst (λ (s : Stored). IsSharedFrom s new) c.replace-own.ensures.value c.share-stored.ensures.form in
    let before : AreStores t placed true old =
    subst (λ (b : Bool). AreStores t placed b old) sealed c.self.invariant.0.stores in (
      record {
        tag = c.self.invariant.0.tag;
        marks = c.self.invariant.0.marks;
        first = c.self.invariant.0.first;
        whole = c.self.invariant.0.whole;
        stores =
            subst (λ (b : Bool). AreStores t placed b new) (sym sealed)
            (stores-shared t placed old new (c.self.invariant.0.whole sealed) before from);
      },
      λ told. apart-shared t old new (c.self.invariant.1 told) from,
    )

pub returns-clause-ok : goal.returns-clause-ok
returns-clause-ok c =
    let t = c.self.inside.tag.value in
    let placed = c.self.inside.placed.items in
    let old = c.self.inside.stored in
    let sealed : c.self.inside.sealed ≡ true =
    subst (λ (x : Contents). x.sealed ≡ true) (sym c.self.view_is) c.requires in
    let told = subst (λ (s : Stored). IfOk c.share-stored.result.1 (λ a. store_in s ≡ Some (arc_value a)))
    c.replace-own.ensures.value c.share-stored.ensures.ok in
    subst (λ (x : Contents). IfOk c.share-stored.result.1 (λ a. StandsFor x.tag (arc_value a))) c.self.view_is
    (IfOk-weaker c.share-stored.result.1 (λ a. store_in old ≡ Some (arc_value a)) (λ a. StandsFor t (arc_value a))
    (λ a is.
    stores-whole t placed c.self.inside.sealed old (arc_value a) (c.self.invariant.0.whole sealed)
    c.self.invariant.0.stores is)
    told)

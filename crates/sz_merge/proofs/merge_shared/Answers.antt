-- The stores that are given are the merged ones where each is put as it is.
use Rattle.std.proofs.Common.{List, ◌∷◌, length, refl, sym, subst}
use Rattle.std.specs.Arc.{arc_value}
use Rattle.sz_spec.specs.declared.modes.Strategy.{Strategy}
use Rattle.sz_spec.specs.Shapes.{Site}
use Rattle.sz_region.specs.LawsStores.{AreRight}
use Rattle.sz_store.specs.Kept.{stored_in, NodeLineage}
use Rattle.sz_store.specs.Words.{BeginEach}
use Rattle.sz_merge.specs.Merged.{AreRead, AreMerged}
use Rattle.sz_merge.proofs.Behind.{merged-read}
use Rattle.sz_merge.proofs.merge_shared.Goals as goal
use Rattle.sz_merge.proofs.merge_shared.Given.{Over}
use Rattle.sz_merge.proofs.merge_shared.Goals.{In_ok-same}

-- what was put is read as the merged stores of the operator and the list
read : (g : Over) (c : In_ok-same g) → AreRead (arc_value c.args.at.now) (stored_in c.args.list.now)
    (arc_value c.args.store.now).stores c.put_merged.new.to.items c.put_merged.new.kinds.items
read g c =
    let store : NodeLineage = arc_value c.args.store.now in
    let bytes = c.put_merged.new.to.items in
    let kinds = c.put_merged.new.kinds.items in
    subst (λ (x : Site). AreRead x (stored_in c.args.list.now) store.stores bytes kinds) c.requires.site
    (subst (λ (ts : List Strategy). AreRead store.site (stored_in ts) store.stores bytes kinds) c.requires.list
    (subst (λ (k : NodeLineage). AreRead k.site (stored_in k.list) k.stores bytes kinds) c.deref-2.ensures
    c.in_ok-same.ensures.read))

pub returns-then-same : goal.returns-then-same
returns-then-same g c =
    let s : Site = arc_value c.args.at.now in
    let list = c.args.list.now in
    let store : NodeLineage = arc_value c.args.store.now in
    let bytes = c.put_merged.new.to.items in
    let kinds = c.put_merged.new.kinds.items in
    let same : BeginEach s (stored_in list) bytes 0 (length bytes) store.stores =
    subst (λ (x : Site). BeginEach x (stored_in list) bytes 0 (length bytes) store.stores) c.requires.site
    (subst (λ (ts : List Strategy). BeginEach store.site (stored_in ts) bytes 0 (length bytes) store.stores)
    c.requires.list
    (subst (λ (k : NodeLineage). BeginEach k.site (stored_in k.list) bytes 0 (length bytes) k.stores)
    c.deref-2.ensures (c.in_ok-same.ensures.same c.if-same.true))) in (
      bytes,
      kinds,
      subst (λ (k : NodeLineage). AreMerged s list store.stores k bytes kinds) (sym c.in_ok-own.ensures)
          (merged-read s list store.stores store bytes bytes kinds (length bytes)
          (subst (λ (x : Site). AreRight (x.out ∷ x.ins)) c.deref.ensures c.within_limits.ensures.right)
          (read g (goal.at.returns-then-same g c).In_ok-same) refl same c.requires.site c.requires.list
          c.requires.whole),
    )

pub returns : goal.returns
returns g c =
    let s : Site = arc_value c.args.at.now in
    let list = c.args.list.now in
    let before : NodeLineage = arc_value c.args.store.now in
    let bytes = c.put_merged.new.to.items in
    let kinds = c.put_merged.new.kinds.items in
    let made = c.in_ok-store.ensures in (
      bytes,
      kinds,
      subst (λ (k : NodeLineage). AreMerged s list before.stores k bytes kinds) (sym c.in_ok-merged.ensures.ok)
          (merged-read s list before.stores c.in_ok-store.store c.deref-3.result.now bytes kinds made.ok.0
          (subst (λ (x : Site). AreRight (x.out ∷ x.ins)) c.deref.ensures c.within_limits.ensures.right)
          (read g (goal.at.returns g c).In_ok-same) c.deref-3.ensures.value made.ok.1 made.site made.list made.whole),
    )

-- The bytes are read as the merged stores alone.
use Rattle.std.proofs.Common.{List, ◌∷◌, subst}
use Rattle.std.specs.Arc.{arc_value}
use Rattle.sz_spec.specs.declared.modes.Strategy.{Strategy}
use Rattle.sz_spec.specs.Shapes.{Site}
use Rattle.sz_region.specs.LawsStores.{AreRight}
use Rattle.sz_store.specs.Kept.{stored_in}
use Rattle.sz_merge.specs.Merged.{AreRead}
use Rattle.sz_merge.proofs.Behind.{merged-read}
use Rattle.sz_merge.proofs.merge.Goals as goal

pub returns : goal.returns
returns g c =
    let s : Site = arc_value c.args.at.now in
    let list = c.args.list.now in
    let store = c.args.store.now in
    let bytes = c.put_merged.new.to.items in
    let kinds = c.put_merged.new.kinds.items in
    let made = c.in_ok-store.ensures in
    merged-read s list store.stores c.in_ok-store.store c.deref-2.result.now bytes kinds made.ok.0
    (subst (λ (x : Site). AreRight (x.out ∷ x.ins)) c.deref.ensures c.within_limits.ensures.right)
    (subst (λ (x : Site). AreRead x (stored_in list) store.stores bytes kinds) c.requires.site
    (subst (λ (ts : List Strategy). AreRead store.site (stored_in ts) store.stores bytes kinds) c.requires.list
    c.in_ok-put_merged.ensures.read))
    c.deref-2.ensures.value made.ok.1 made.site made.list made.whole

-- Region pairs that are kinds stay, and in the place of other ones their kinds are put.
use Rattle.std.proofs.Common.{◌∙◌, ◌∷◌, sym, subst}
use Rattle.std.proofs.lemmas.List.{length-map}
use Rattle.sz_spec.specs.Shapes.{Site}
use Rattle.sz_region.specs.LawsStores.{AreRight}
use Rattle.sz_tables.specs.Rows.{pairing_of, pairings}
use Rattle.sz_store.specs.Kept.{keep_at}
use Rattle.sz_merge.proofs.Behind.{pairs-left, kinds-merged}
use Rattle.sz_merge.proofs.parts.merge_pairs.Goals as goal

pub returns-then-branch : goal.returns-then-branch
returns-then-branch c =
    let s = c.args.store.now in
    let t = c.args.table.now in
    let put = c.in_ok-put_store.ensures.ok in
    pairs-left s.site (keep_at s.stores c.args.place) (pairings t) c.len.result c.args.to.now.items
    c.put_store.new.to.items put.0 c.args.kinds.now.items c.push.new.self.items c.requires.table.pairs
    (c.in_ok-are_kinds.ensures c.if-branch.true)
    (length-map t.rows (pairing_of t.outs t.sets) ∙ sym c.len.ensures.count) put.2
    c.in_ok-put_store.ensures.read c.in_ok-push.ensures.items

pub returns : goal.returns
returns c =
    let s = c.args.store.now in
    kinds-merged s.site (keep_at s.stores c.args.place) (pairings c.args.table.now) c.in_ok-count.count
    c.args.to.now.items c.put_kinds.new.to.items c.args.kinds.now.items c.push-2.new.self.items
    (subst (λ (x : Site). AreRight (x.out ∷ x.ins)) c.site-at.ensures c.within_limits.ensures.right) c.requires.mode
    c.requires.table.pairs c.in_ok-count.ensures c.in_ok-push-2.ensures.items

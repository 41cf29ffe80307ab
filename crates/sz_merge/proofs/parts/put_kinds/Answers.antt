-- The region pairs that are joined are those of the table.
use Rattle.std.proofs.Common.{◌≡◌, ◌∙◌, ℕ, List, sym, ap, subst, Option}
use Rattle.std.specs.Prelude.{IfSome, IfNone, IfOk}
use Rattle.std.proofs.lemmas.Result.{IfOk-weaker}
use Rattle.sz_cells.specs.Extent.{Extent}
use Rattle.sz_spec.specs.Shapes.{Site}
use Rattle.sz_frame.specs.Parts.{Pairing}
use Rattle.sz_tables.specs.Rows.{pairings}
use Rattle.sz_store.specs.Kept.{regions, keep_at}
use Rattle.sz_merge.specs.Merged.{AreKindsPut}
use Rattle.sz_merge.proofs.Behind.{full-mode, same-pairs}
use Rattle.sz_merge.proofs.parts.put_kinds.Goals as goal

pub put_kinds_of_rows-requires-clause-out : goal.put_kinds_of_rows-requires-clause-out
put_kinds_of_rows-requires-clause-out c =
    c.requires.table.out ∙ sym (c.out.ensures.value ∙ ap (λ (s : Site). s.out) c.site-at.ensures)

pub put_kinds_of_rows-requires-clause-ins : goal.put_kinds_of_rows-requires-clause-ins
put_kinds_of_rows-requires-clause-ins c =
    c.requires.table.ins ∙ sym (c.ins.ensures.value ∙ ap (λ (s : Site). s.ins) c.site-at.ensures)

pub returns-in-Some : goal.returns-in-Some
returns-in-Some c =
    let s = c.args.store.now.site in
    let rs = pairings c.args.table.now in
    let old = c.args.to.now.items in
    let new = c.put_kinds_of_rows.new.to.items in
    let made : AreKindsPut c.out.result c.ins.result.now rs c.in-Some.count old new =
    subst (λ (o : Option ℕ). IfSome o (λ n. AreKindsPut c.out.result c.ins.result.now rs n old new)) c.in-Some.is
    c.in_ok-count.ensures.put in
    subst (λ (e : Extent). AreKindsPut e s.ins rs c.in-Some.count old new)
    (c.out.ensures.value ∙ ap (λ (x : Site). x.out) c.site-at.ensures)
    (subst (λ (es : List Extent). AreKindsPut c.out.result es rs c.in-Some.count old new)
    (c.ins.ensures.value ∙ ap (λ (x : Site). x.ins) c.site-at.ensures) made)

pub put_joined-requires-clause-mode : goal.put_joined-requires-clause-mode
put_joined-requires-clause-mode c =
    full-mode (keep_at c.args.store.now.stores c.args.place) (pairings c.args.table.now) c.requires.mode
    c.requires.table.pairs

pub returns : goal.returns
returns c =
    let s = c.args.store.now.site in
    let rs = pairings c.args.table.now in
    let new = c.put_joined.new.to.items in
    let kept : c.put_kinds_of_rows.new.to.items ≡ c.args.to.now.items =
    subst (λ (o : Option ℕ). IfNone o (c.put_kinds_of_rows.new.to.items ≡ c.args.to.now.items)) c.in_default.is
    c.in_ok-count.ensures.none in
    subst (λ (old : List ℕ). IfOk c.put_joined.result (λ n. AreKindsPut s.out s.ins rs n old new)) kept
    (IfOk-weaker c.put_joined.result
    (λ n. (qs : List Pairing) × ((keep_at c.args.store.now.stores c.args.place).holding ≡ regions qs)
    × AreKindsPut s.out s.ins qs n c.put_kinds_of_rows.new.to.items new)
    (λ n. AreKindsPut s.out s.ins rs n c.put_kinds_of_rows.new.to.items new)
    (λ n made. subst (λ (qs : List Pairing). AreKindsPut s.out s.ins qs n c.put_kinds_of_rows.new.to.items new)
    (same-pairs made.0 rs (sym made.1 ∙ c.requires.table.pairs)) made.2) c.put_joined.ensures)

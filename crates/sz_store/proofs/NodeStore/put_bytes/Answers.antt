-- The words of all stores are there, and so they are read again.
use Rattle.std.proofs.Common.{◌≡◌, ℕ, List, ◌∷◌, ◌++◌, map, length, All, true, ap, ap₂, subst, ◌∙◌}
use Rattle.std.specs.Prelude.{OnOk}
use Rattle.std.specs.Arc.{arc_value}
use Rattle.std.proofs.lemmas.Result.{on_ok_weaker}
use Rattle.sz_cells.specs.Extent.{Extent, is_extent}
use Rattle.sz_spec.specs.Shapes.{Site}
use Rattle.sz_region.specs.LawsStores.{AreRight}
use Rattle.sz_store.specs.Kept.{NodeLineage, stored_in}
use Rattle.sz_store.specs.Stocks.{keep_of, site_of}
use Rattle.sz_store.specs.Words.{AreWordsOf, BeginEach}
use Rattle.sz_store.specs.declared.stores.ListedStore.{ListedStore}
use Rattle.sz_store.proofs.Reading.{put-begins}
use Rattle.sz_store.proofs.NodeStore.put_bytes.Goals as goal

pub returns-else-is_err-clause-ok : goal.returns-else-is_err-clause-ok
returns-else-is_err-clause-ok c =
    let s : Site = arc_value c.self.inside.at in
    let put = subst
    (λ (ls : List ListedStore). (x : Site) → All (λ y. y ≡ x) (map site_of ls) → OnOk c.put_all-put.result
    ((bytes : List ℕ) × AreWordsOf x (map keep_of ls) bytes
    × (c.put_all-put.new.to.items ≡ c.args.to.now.items ++ bytes)))
    c.deref-3.ensures.value c.put_all-put.ensures.ok in
    subst
    (λ (x : NodeLineage). OnOk c.put_all-put.result ((bytes : List ℕ) × AreWordsOf x.site x.stores bytes
    × (c.put_all-put.new.to.items ≡ c.args.to.now.items ++ bytes)))
    c.self.view_is (put s c.self.invariant.same)

pub returns-else-is_err-clause-read : goal.returns-else-is_err-clause-read
returns-else-is_err-clause-read c =
    let s : Site = arc_value c.self.inside.at in
    let out : c.out.result ≡ s.out = c.out.ensures.value ∙ ap (λ (x : Site). x.out) c.deref.ensures in
    let ins : c.ins.result.now ≡ s.ins = c.ins.ensures.value ∙ ap (λ (x : Site). x.ins) c.deref-2.ensures in
    let right : AreRight (s.out ∷ s.ins) =
    subst (All (λ (e : Extent). is_extent e ≡ true)) (ap₂ (λ (e : Extent) (es : List Extent). e ∷ es) out ins)
    c.shapes_are_within_limits.ensures in
    let put = subst
    (λ (ls : List ListedStore). (x : Site) → All (λ y. y ≡ x) (map site_of ls) → OnOk c.put_all-put.result
    ((bytes : List ℕ) × AreWordsOf x (map keep_of ls) bytes
    × (c.put_all-put.new.to.items ≡ c.args.to.now.items ++ bytes)))
    c.deref-3.ensures.value c.put_all-put.ensures.ok in
    let old = c.args.to.now.items in
    let new = c.put_all-put.new.to.items in
    let list = c.self.inside.list.items in
    let stores = map keep_of c.self.inside.stores.items in
    subst
    (λ (x : NodeLineage). OnOk c.put_all-put.result ((rest : List ℕ)
    → BeginEach x.site (stored_in x.list) (new ++ rest) (length old) (length new) x.stores))
    c.self.view_is
    (on_ok_weaker c.put_all-put.result
    (λ words rest. put-begins s list stores old new words.0 rest right
    (λ k d inside. (c.self.invariant.each k d inside).mode) c.self.invariant.stored words.1 words.2)
    (put s c.self.invariant.same))

-- The word of the store at the place is there, and so it is read again.
use Rattle.std.proofs.Common.{◌≡◌, ◌<◌, ◌∙◌, ℕ, List, ◌∷◌, ◌++◌, length, All, true, sym, ap, ap₂, subst, arith}
use Rattle.std.specs.Prelude.{OnOk}
use Rattle.std.specs.Arc.{arc_value}
use Rattle.std.proofs.lemmas.List.{length-map}
use Rattle.std.proofs.lemmas.Result.{on_ok_weaker}
use Rattle.sz_cells.specs.Extent.{Extent, is_extent}
use Rattle.sz_spec.specs.Shapes.{Site}
use Rattle.sz_spec.specs.Modes.{mode_of}
use Rattle.sz_region.specs.LawsStores.{AreRight}
use Rattle.sz_store.specs.Kept.{Keep, NodeLineage, keep_at}
use Rattle.sz_store.specs.Stocks.{keep_of, site_of, IsOfItsMode}
use Rattle.sz_store.specs.Stocked.{IsStocked}
use Rattle.sz_store.specs.Words.{IsWordOf, Begins}
use Rattle.sz_store.specs.declared.stores.ListedStore.{ListedStore}
use Rattle.sz_store.proofs.Placing.{all-of_map}
use Rattle.sz_store.proofs.Listed.{own-site, keep-here}
use Rattle.sz_store.proofs.Reading.{word-read}
use Rattle.sz_store.proofs.NodeStore.put_store.Goals as goal

pub index-requires : goal.index-requires
index-requires c =
    omega (
      arith,
      c.requires,
      ap (λ (x : NodeLineage). length x.stores) c.self.view_is,
      length-map c.self.inside.stores.items keep_of,
    )

pub returns-clause-ok : goal.returns-clause-ok
returns-clause-ok c =
    let items = c.self.inside.stores.items in
    let view = c.args.self.now in
    let l = c.index.result.now in
    let inside : c.args.place < length items =
    omega (
      arith,
      c.requires,
      ap (λ (x : NodeLineage). length x.stores) c.self.view_is,
      length-map items keep_of,
    ) in
    let site : site_of l ≡ view.site =
    own-site items c.args.place l (arc_value c.self.inside.at) view c.self.invariant.same inside c.index.ensures
    (ap (λ (x : NodeLineage). x.site) c.self.view_is) in
    let here : keep_of l ≡ keep_at view.stores c.args.place =
    keep-here items c.args.place l view (ap (λ (x : NodeLineage). x.stores) c.self.view_is) inside c.index.ensures in
    let f = keep_at view.stores c.args.place in
    let old = c.args.to.now.items in
    let new = c.put_bytes.new.to.items in
    subst (λ (x : Site). OnOk c.put_bytes.result ((word : List ℕ) × IsWordOf x f.holding word
    × (new ≡ old ++ word))) site
    (subst (λ (g : Keep). OnOk c.put_bytes.result ((word : List ℕ) × IsWordOf (site_of l) g.holding word
    × (new ≡ old ++ word))) here c.put_bytes.ensures.ok)

pub returns-clause-read : goal.returns-clause-read
returns-clause-read c =
    let s : Site = arc_value c.self.inside.at in
    let out : c.out.result ≡ s.out = c.out.ensures.value ∙ ap (λ (x : Site). x.out) c.deref.ensures in
    let ins : c.ins.result.now ≡ s.ins = c.ins.ensures.value ∙ ap (λ (x : Site). x.ins) c.deref-2.ensures in
    let right : AreRight (s.out ∷ s.ins) =
    subst (All (λ (e : Extent). is_extent e ≡ true)) (ap₂ (λ (e : Extent) (es : List Extent). e ∷ es) out ins)
    c.shapes_are_within_limits.ensures in
    let items = c.self.inside.stores.items in
    let view = c.args.self.now in
    let l = c.index.result.now in
    let inside : c.args.place < length items =
    omega (
      arith,
      c.requires,
      ap (λ (x : NodeLineage). length x.stores) c.self.view_is,
      length-map items keep_of,
    ) in
    let site : site_of l ≡ s =
    ap site_of c.index.ensures
    ∙ all-of_map (λ (x : Site). x ≡ s) site_of items c.self.invariant.same c.args.place l inside in
    let here : keep_of l ≡ keep_at view.stores c.args.place =
    keep-here items c.args.place l view (ap (λ (x : NodeLineage). x.stores) c.self.view_is) inside c.index.ensures in
    let P : Keep → Type 0 = IsStocked s c.self.inside.placed.items c.self.inside.spare in
    let stocked : P (keep_of l) =
    subst (λ (x : ListedStore). P (keep_of x)) (sym c.index.ensures)
    (all-of_map P keep_of items c.self.invariant.each c.args.place l inside) in
    let old = c.args.to.now.items in
    let new = c.put_bytes.new.to.items in
    let put : OnOk c.put_bytes.result ((word : List ℕ) × IsWordOf s (keep_of l).holding word × (new ≡ old ++ word)) =
    subst (λ (x : Site). OnOk c.put_bytes.result ((word : List ℕ) × IsWordOf x (keep_of l).holding word
    × (new ≡ old ++ word))) site c.put_bytes.ensures.ok in
    subst (λ (x : NodeLineage). OnOk c.put_bytes.result ((rest : List ℕ) → Begins x.site
    (mode_of (keep_at view.stores c.args.place).strategy) (new ++ rest) (length old) (length new)
    (keep_at view.stores c.args.place).holding)) c.self.view_is
    (subst (λ (f : Keep). OnOk c.put_bytes.result ((rest : List ℕ) → Begins s (mode_of f.strategy) (new ++ rest)
    (length old) (length new) f.holding)) here
    (on_ok_weaker c.put_bytes.result
    (λ words rest. word-read s (keep_of l) old new words.0 rest right stocked.mode words.1 words.2) put))

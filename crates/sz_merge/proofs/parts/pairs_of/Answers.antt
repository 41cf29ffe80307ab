-- What is put of the store alone is read as the store.
use Rattle.std.proofs.Common.{◌≤◌, ◌∙◌, ℕ, List, [], ◌∷◌, ◌++◌, map, length, ap, subst, arith}
use Rattle.std.specs.Arc.{arc_value}
use Rattle.std.proofs.lemmas.List.{append-nil}
use Rattle.sz_cells.specs.Extent.{Extent}
use Rattle.sz_spec.specs.Shapes.{Site}
use Rattle.sz_spec.specs.Modes.{mode_of}
use Rattle.sz_frame.specs.Parts.{Pairing}
use Rattle.sz_region.specs.FullBytes.{BeginsRegions}
use Rattle.sz_region.specs.LawsStores.{AreRight}
use Rattle.sz_region.proofs.ReadShapes.{read-shapes}
use Rattle.sz_store.specs.Kept.{keep_at}
use Rattle.sz_store.specs.Words.{Begins}
use Rattle.sz_merge.proofs.Behind.{pairs-read}
use Rattle.sz_merge.proofs.parts.pairs_of.Goals as goal

pub returns-in-Ok-clause-pairs : goal.returns-in-Ok-clause-pairs
returns-in-Ok-clause-pairs c =
    let s = c.args.store.now.site in
    let f = keep_at c.args.store.now.stores c.args.place in
    let m = mode_of f.strategy in
    let bytes = c.put_store.new.to.items in
    let rs : List Pairing = map (λ a. arc_value a) c.in-Ok.pairs.items in
    let next = c.in-Ok.field-0-1 in
    let begin : Begins s m bytes 0 (length bytes) f.holding =
    subst (λ (b : List ℕ). Begins s m b 0 (length bytes) f.holding) (append-nil bytes)
    (subst (λ (n : ℕ). Begins s m (bytes ++ []) n (length bytes) f.holding) (ap length c.new-bytes.ensures.items)
    (c.in_ok-put_store.ensures.read [])) in
    let taken : BeginsRegions s.out s.ins bytes 0 next rs =
    subst (λ (b : List ℕ). BeginsRegions s.out s.ins b 0 next rs) c.deref.ensures.value
    (subst (λ (e : Extent). BeginsRegions e s.ins c.deref.result.now 0 next rs)
    (c.out.ensures.value ∙ ap (λ (x : Site). x.out) c.site-at.ensures)
    (subst (λ (es : List Extent). BeginsRegions c.out.result es c.deref.result.now 0 next rs)
    (c.ins.ensures.value ∙ ap (λ (x : Site). x.ins) c.site-at.ensures) c.in-Ok.ensures.ok)) in
    pairs-read s m f.holding bytes next (length bytes) rs
    (subst (λ (x : Site). AreRight (x.out ∷ x.ins)) c.site-at.ensures c.within_limits.ensures.right) c.requires.mode
    begin taken (omega arith)
    (subst (λ (b : List ℕ). next ≤ length b) c.deref.ensures.value c.in-Ok.ensures.within)

pub returns-in-Ok-clause-shapes : goal.returns-in-Ok-clause-shapes
returns-in-Ok-clause-shapes c =
    let s = c.args.store.now.site in
    let rs : List Pairing = map (λ a. arc_value a) c.in-Ok.pairs.items in
    let next = c.in-Ok.field-0-1 in
    read-shapes s.out s.ins c.deref.result.now 0 next rs
    (subst (λ (e : Extent). BeginsRegions e s.ins c.deref.result.now 0 next rs)
    (c.out.ensures.value ∙ ap (λ (x : Site). x.out) c.site-at.ensures)
    (subst (λ (es : List Extent). BeginsRegions c.out.result es c.deref.result.now 0 next rs)
    (c.ins.ensures.value ∙ ap (λ (x : Site). x.ins) c.site-at.ensures) c.in-Ok.ensures.ok))

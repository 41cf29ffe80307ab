-- One region pair more is one mark more.
use Rattle.std.proofs.Common.{◌≡◌, ◌∙◌, ◌++◌, ◌∷◌, [], ℕ, ◌+◌, ◌<◌, List, map, length, get_or, take, sym, ap}
use Rattle.std.proofs.Common.{subst, arith}
use Rattle.std.specs.Arc.{arc_value}
use Rattle.std.proofs.lemmas.List.{length-map, take_more}
use Rattle.sz_cells.specs.Extent.{Extent, size_of}
use Rattle.sz_frame.specs.Parts.{Pairing}
use Rattle.sz_region.specs.Putting.{HasShapes}
use Rattle.sz_tables.proofs.Taking.{read-map}
use Rattle.sz_merge.specs.Marks.{AreMarked, AreLabels, has_index}
use Rattle.sz_merge.proofs.Marked.{labels-numbers, labels-more}
use Rattle.sz_merge.proofs.marking.label_cells.Goals as goal

-- a region pair that is read has the shapes
has-at : {A : Type 0} (f : A → Pairing) (xs : List A) (i : ℕ) (x : A) (r : Pairing) (out : Extent) (ins : List Extent)
    → ((k : ℕ) (d : Pairing) → k < length (map f xs) → HasShapes out ins (get_or (map f xs) k d)) → i < length xs
    → x ≡ get_or xs i x → r ≡ f x → HasShapes out ins r
has-at f xs i x r out ins each inside read is =
    subst (HasShapes out ins) (read-map f xs i x r r inside read is) (each i r (omega (arith, length-map xs f, inside)))

pub mark-requires-clause-ins : goal.mark-requires-clause-ins
mark-requires-clause-ins c =
    (has-at (λ a. arc_value a) c.args.regions.now c.loop-region.region-index c.region-item.result c.deref.result.now
    c.args.out c.args.lineages.now.ins c.requires.shapes c.loop-region-test.true c.region-item.is c.deref.ensures).ins
    ∙ sym c.loop-region.invariant.ins

pub mark-requires-clause-size : goal.mark-requires-clause-size
mark-requires-clause-size c =
    c.loop-region.invariant.labels.long
    ∙ sym (ap size_of (has-at (λ a. arc_value a) c.args.regions.now c.loop-region.region-index c.region-item.result
    c.deref.result.now c.args.out c.args.lineages.now.ins c.requires.shapes c.loop-region-test.true c.region-item.is
    c.deref.ensures).out)

pub mark-requires-clause-numbers : goal.mark-requires-clause-numbers
mark-requires-clause-numbers c =
    labels-numbers c.args.out c.args.lineages.now.ins
    (take c.loop-region.region-index (map (λ a. arc_value a) c.args.regions.now)) c.loop-region.labels.items
    c.loop-region.lineages.lists c.loop-region.invariant.labels

pub loop-region-preserved : goal.loop-region-preserved
loop-region-preserved c =
    let inv = c.loop-region.invariant in
    let i = c.loop-region.region-index in
    let ins = c.args.lineages.now.ins in
    let r = c.deref.result.now in
    let rs : List Pairing = map (λ a. arc_value a) c.args.regions.now in
    let has = has-at (λ a. arc_value a) c.args.regions.now i c.region-item.result r c.args.out ins c.requires.shapes
    c.loop-region-test.true c.region-item.is c.deref.ensures in
    let here : get_or rs i r ≡ r =
    read-map (λ a. arc_value a) c.args.regions.now i c.region-item.result r r c.loop-region-test.true c.region-item.is
    c.deref.ensures in
    let next : take (i + 1) rs ≡ take i rs ++ r ∷ [] =
    take_more rs i r (omega (arith, length-map c.args.regions.now (λ a. arc_value a), c.loop-region-test.true))
    ∙ ap (λ (p : Pairing). take i rs ++ p ∷ []) here in
    let marked : AreMarked ins r (has_index r) c.loop-region.labels.items c.mark.new.labels.items
    c.loop-region.lineages.lists c.mark.new.lineages.lists =
    subst (λ (es : List Extent). AreMarked es r (has_index r) c.loop-region.labels.items c.mark.new.labels.items
    c.loop-region.lineages.lists c.mark.new.lineages.lists) inv.ins c.in_ok-mark.ensures.ok in
    record {
      ins = c.in_ok-mark.ensures.ins ∙ inv.ins;
      labels =
          subst (λ (ps : List Pairing). AreLabels c.args.out ins ps c.mark.new.labels.items c.mark.new.lineages.lists)
          (sym next)
          (labels-more c.args.out ins (take i rs) r c.loop-region.labels.items c.mark.new.labels.items
          c.loop-region.lineages.lists c.mark.new.lineages.lists inv.labels has.out marked);
    }

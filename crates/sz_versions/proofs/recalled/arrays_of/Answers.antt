-- One more array, for one more base array.
use Rattle.std.proofs.Common.{◌≡◌, ◌+◌, ◌++◌, ◌∷◌, [], List, map, take, sym, ap, ap₂, ◌∙◌}
use Rattle.std.specs.Arc.{arc_value}
use Rattle.std.proofs.lemmas.List.{map-append, take_more}
use Rattle.sz_spec.specs.Values.{Grid}
use Rattle.sz_catalogue.specs.Holdings.{Base, arrays_of}
use Rattle.sz_versions.proofs.recalled.arrays_of.Goals as goal

pub loop-only-preserved : goal.loop-only-preserved
loop-only-preserved c =
    let base = c.args.base.now in
    let i = c.loop-only.only-index in
    let more : take (i + 1) base ≡ take i base ++ c.only-item.result ∷ [] =
    take_more base i c.only-item.result c.loop-only-test.true
    ∙ ap (λ (b : Base). take i base ++ b ∷ []) (sym c.only-item.is) in
    ap (λ xs. map (λ a. arc_value a) xs) c.in_ok-push.ensures.items
    ∙ map-append (λ a. arc_value a) c.loop-only.arrays.items (c.in_ok-try_clone.field-0 ∷ [])
    ∙ ap₂ (λ (gs : List Grid) (x : Grid). gs ++ x ∷ []) c.loop-only.invariant
    (c.in_ok-try_clone.ensures ∙ ap (λ (b : Base). b.array) c.only.view_is)
    ∙ sym (map-append (λ (b : Base). b.array) (take i base) (c.only-item.result ∷ []))
    ∙ sym (ap arrays_of more)

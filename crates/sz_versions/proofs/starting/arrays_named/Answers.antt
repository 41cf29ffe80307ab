-- One more array, for one more name.
use Rattle.std.proofs.Common.{◌++◌, ◌∷◌, [], List, map, take, sym, ap, ap₂, ◌∙◌}
use Rattle.std.specs.Arc.{arc_value}
use Rattle.std.proofs.lemmas.List.{map-append}
use Rattle.sz_spec.specs.Values.{Grid}
use Rattle.sz_catalogue.specs.Holdings.{Base, arrays_of}
use Rattle.sz_catalogue.specs.Starts.{bases_of}
use Rattle.sz_catalogue.proofs.Bases.{held-more}
use Rattle.sz_versions.proofs.starting.arrays_named.Goals as goal

pub loop-only-preserved : goal.loop-only-preserved
loop-only-preserved c =
    let cat = c.args.catalogue.now in
    let names = c.args.base.now in
    let i = c.loop-only.only-index in
    let found = rw (c.in-Some.is, c.as_str.ensures) at c.array.ensures in
    let bases =
    held-more cat names i c.only-item.result (arc_value c.in-Some.array.now) c.loop-only-test.true c.only-item.is
    found in
    ap (λ xs. map (λ a. arc_value a) xs) c.in_ok-push.ensures.items
    ∙ map-append (λ a. arc_value a) c.loop-only.arrays.items (c.in_ok-try_clone.field-0 ∷ [])
    ∙ ap₂ (λ (gs : List Grid) (x : Grid). gs ++ x ∷ []) c.loop-only.invariant c.in_ok-try_clone.ensures
    ∙ sym (map-append (λ (b : Base). b.array) (bases_of cat (take i names)) _)
    ∙ sym (ap arrays_of bases)

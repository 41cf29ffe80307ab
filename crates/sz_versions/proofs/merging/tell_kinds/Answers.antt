-- The numbers that are told are those of the stores.
use Rattle.std.proofs.Common.{◌++◌, List, ℕ, sym, ap, ◌∙◌}
use Rattle.std.specs.Arc.{arc_value}
use Rattle.sz_spec.specs.Shapes.{Site}
use Rattle.sz_merge.specs.Stood.{kinds_kept}
use Rattle.sz_merge.proofs.Told.{numbers-kept}
use Rattle.sz_versions.proofs.merging.tell_kinds.Goals as goal

pub returns : goal.returns
returns g c =
    let s = arc_value c.args.run.now.at in
    let them = c.args.store.now in
    let m = c.in_ok-told.told in
    c.in_ok-extend_from_slice.ensures.items
    ∙ ap (λ (ks : List ℕ). c.args.kinds.now.items ++ ks) (c.deref.ensures.value
    ∙ numbers-kept s c.args.list.now them.stores m.store m.bytes.items m.kinds.items c.in_ok-told.ensures
    ∙ ap (λ (x : Site). kinds_kept x them.stores) (sym c.requires.fits.site))

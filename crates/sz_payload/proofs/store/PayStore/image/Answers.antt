-- What the look adds is what the store adds, in the direction that was asked.
use Rattle.std.proofs.Common.{ap, sym, ◌∙◌}
use Rattle.sz_cells.specs.Cells.{has, with_those}
use Rattle.sz_spec.specs.declared.modes.Dir.{Dir}
use Rattle.sz_spec.specs.declared.modes.Dir.TheVariants.{Back, Forward}
use Rattle.sz_spec.specs.Shapes.{Site}
use Rattle.sz_spec.specs.Sides.{image_in}
use Rattle.sz_tables.specs.Entries.{entries}
use Rattle.sz_payload.specs.Kept.{PayContents, entries_stand}
use Rattle.sz_payload.proofs.store.PayStore.image.Goals as goal

pub returns-in-Back : goal.returns-in-Back
returns-in-Back g c =
    let i = c.args.input in
    let from = c.args.from.now in
    let to = c.args.to.now in
    let k = c.args.self.now in
    c.back.ensures
    ∙ ap (λ (s : Site). with_those to (has (image_in Back s i (entries_stand c.self.inside.comp s (entries
    c.self.inside.table) i) from))) c.deref.ensures
    ∙ ap (λ (x : PayContents). with_those to (has (image_in Back x.store.site i (entries_stand x.comp x.store.site
    x.store.given i) from))) c.self.view_is
    ∙ ap (λ (d : Dir). with_those to (has (image_in d k.store.site i (entries_stand k.comp k.store.site k.store.given i)
    from))) (sym c.in-Back.is)

pub returns-in-Forward : goal.returns-in-Forward
returns-in-Forward g c =
    let i = c.args.input in
    let from = c.args.from.now in
    let to = c.args.to.now in
    let k = c.args.self.now in
    c.forward.ensures
    ∙ ap (λ (s : Site). with_those to (has (image_in Forward s i (entries_stand c.self.inside.comp s (entries
    c.self.inside.table) i) from))) c.deref.ensures
    ∙ ap (λ (x : PayContents). with_those to (has (image_in Forward x.store.site i (entries_stand x.comp x.store.site
    x.store.given i) from))) c.self.view_is
    ∙ ap (λ (d : Dir). with_those to (has (image_in d k.store.site i (entries_stand k.comp k.store.site k.store.given i)
    from))) (sym c.in-Forward.is)

-- Sealed stores stand for the tag's relation, so what they add is the image under it.
use Rattle.std.proofs.Common.{ap, ◌∙◌}
use Rattle.sz_cells.specs.Cells.{has, with_those}
use Rattle.sz_spec.specs.declared.modes.Strategy.{Strategy}
use Rattle.sz_spec.specs.Sides.{image_in}
use Rattle.sz_store.specs.Kept.{holding_for, holding_stands}
use Rattle.sz_shelf.proofs.Stores.{image-told}
use Rattle.sz_shelf.proofs.shelved.Shelved.image.Goals as goal

pub returns-clause-image : goal.returns-clause-image
returns-clause-image c =
    c.image.ensures.read
    ∙ ap (λ (u : Strategy). with_those c.args.to.now
    (has (image_in c.args.dir c.store-store.result.now.site c.args.input
    (holding_stands c.store-store.result.now.site (holding_for u c.store-store.result.now.stores) c.args.input)
    c.args.from.now))) c.image.ensures.by
    ∙ image-told c.args.self.now.tag c.store-store.result.now c.args.strategy c.args.dir c.args.input c.args.from.now
    c.args.to.now c.store-store.ensures c.requires.listed c.requires.stored c.requires.input
    c.a_bitmap_is_its_cells.ensures.cells c.requires.from

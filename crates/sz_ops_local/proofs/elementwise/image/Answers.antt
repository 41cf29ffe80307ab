-- The two sides have one shape, and the image is the set of the cells at the same places.
use Rattle.std.proofs.Common.{◌∙◌, sym}
use Rattle.sz_cells.specs.Cells.{has}
use Rattle.sz_spec.specs.Lineage.{mapped}
use Rattle.sz_spec.specs.Sides.{near_side, image_in}
use Rattle.sz_frame.proofs.Added.{own-at, with-ext}
use Rattle.sz_ops_local.proofs.Places.{same-sides, image-same}
use Rattle.sz_ops_local.proofs.elementwise.image.Goals as goal

pub add_bits-requires : goal.add_bits-requires
add_bits-requires c =
    c.requires.from ∙ same-sides c.args.dir c.args.at.now c.args.input c.shape_of_all.ensures.ins c.requires.input
    ∙ sym c.requires.to

pub returns : goal.returns
returns c =
    let s = c.args.at.now in
    let from = c.args.from.now in
    let own = own-at from (near_side c.args.dir s c.args.input) c.requires.from c.shape.ensures.rising in
    c.add_bits.ensures
    ∙ with-ext c.args.to.now (has from) (has (image_in c.args.dir s c.args.input (mapped s.op s.ins c.args.input)
    from))
    (λ x held. image-same c.args.dir s c.args.input from x c.requires.op c.shape_of_all.ensures.site
    c.requires.input own (rw (← c.requires.to) held))

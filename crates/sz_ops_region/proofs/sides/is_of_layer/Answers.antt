-- The rows of the layer are those of which the quotient by the height is the layer.
use Rattle.std.proofs.Common.{◌∙◌}
use Rattle.sz_cells.specs.Extent.{height_of, layer_of}
use Rattle.sz_ops_region.proofs.Neighbours.{band-has}
use Rattle.sz_ops_region.proofs.sides.is_of_layer.Goals as goal

pub returns : goal.returns
returns c =
    let e = c.args.shape.now in
    let band = c.requires in
    let rows = c.args.band in
    c.has.ensures
    ∙ band-has (height_of e) (layer_of e c.args.cell) c.args.beside.row rows.top rows.end band.some band.top band.end

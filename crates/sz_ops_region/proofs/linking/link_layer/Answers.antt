-- The quotient by the height of each row of the layer is the layer.
use Rattle.std.proofs.Common.{sym, subst, arith}
use Rattle.sz_cells.specs.Extent.{Extent, height_of}
use Rattle.sz_ops_region.specs.Sides.{IsBandOf}
use Rattle.sz_ops_region.proofs.Neighbours.{band-layer}
use Rattle.sz_ops_region.proofs.linking.link_layer.Goals as goal

pub link_row-requires-clause-band : goal.link_row-requires-clause-band
link_row-requires-clause-band c =
    let e = c.args.array.now.extent in
    let band : IsBandOf e c.of-band.result c.args.layer =
    subst (λ (f : Extent). IsBandOf f c.of-band.result c.args.layer) c.shape.ensures c.of-band.ensures.band in
    subst (IsBandOf e c.of-band.result)
    (sym (band-layer (height_of e) c.args.layer c.loop-row.row (omega (arith, band.top, c.loop-row.auto.row))
    (omega (arith, band.end, c.loop-row.invariant.end, c.loop-row-test.true)))) band

-- The object is the order of an array of one layer, or of several.
use Rattle.std.proofs.Common.{ap, ◌∙◌}
use Rattle.serde_json.specs.View.{view}
use Rattle.sz_cells.specs.Extent.{height_of}
use Rattle.sz_writing.proofs.Orders.{layer-ordered, layers-ordered}
use Rattle.sz_writing.proofs.line.order_of.Goals as goal

pub returns-in_ok-cells : goal.returns-in_ok-cells
returns-in_ok-cells c =
    layer-ordered c.args.name.now c.args.array.now _ c.height-height.result c.cells.result.now
    (view c.in_ok-cells.cells) c.object_of.result c.requires (c.shape.view_is ∙ c.shape-shape.ensures)
    (c.height-height.ensures.value ∙ ap height_of c.shape-shape.ensures) c.cells.ensures.values c.shape.invariant
    c.if-shape-eq1.true c.in_ok-cells.ensures.written c.in_ok-cells.ensures.given c.object_of.ensures

pub returns-in_ok-cells-2 : goal.returns-in_ok-cells-2
returns-in_ok-cells-2 c =
    layers-ordered c.args.name.now c.args.array.now _ c.height-height.result c.cells-else-shape-eq1.result.now
    (view c.in_ok-cells-2.cells) c.object_of-else-shape-eq1.result c.requires
    (c.shape.view_is ∙ c.shape-shape.ensures)
    (c.height-height.ensures.value ∙ ap height_of c.shape-shape.ensures) c.cells-else-shape-eq1.ensures.values
    c.shape.invariant c.if-shape-eq1.false c.in_ok-cells-2.ensures c.object_of-else-shape-eq1.ensures

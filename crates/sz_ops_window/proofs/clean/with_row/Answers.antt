-- Each column adds its cell's value.
use Rattle.std.proofs.Common.{◌≡◌, ◌∙◌, ap, to_z, of_z, w64}
use Rattle.sz_cells.specs.Extent.{Extent}
use Rattle.sz_ops_window.specs.Least.{with_value}
use Rattle.sz_ops_window.proofs.Least.{row-next, value-read}
use Rattle.sz_ops_window.proofs.clean.with_row.Goals as goal

pub loop-col-preserved : goal.loop-col-preserved
loop-col-preserved c =
    let cols : c.shape.inside.cols ≡ c.args.array.now.extent.cols =
    ap (λ (e : Extent). e.cols) (c.shape.view_is ∙ c.shape-shape.ensures) in
    let t = to_z w64 (of_z w64 c.args.t) in
    row-next t c.args.array.now c.args.window.left c.loop-col.col c.args.row c.args.least c.loop-col.least
    c.with_value-least.result c.loop-col.auto.col c.loop-col.invariant
    (c.with_value-least.ensures ∙ ap (with_value t c.loop-col.least)
    (value-read c.args.array.now c.cells-cells.result.now c.shape.inside.cols c.args.row c.loop-col.col
    c.cells-cells.ensures.values cols))

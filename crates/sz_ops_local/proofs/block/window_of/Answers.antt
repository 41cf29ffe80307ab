-- The rows and columns of the block are those of the window.
use Rattle.std.proofs.Common.{◌≡◌, true, sym, ap, subst, ◌∙◌}
use Rattle.sz_cells.specs.Extent.{Extent, holds}
use Rattle.sz_ops_local.proofs.Blocks.{block-window}
use Rattle.sz_ops_local.proofs.block.window_of.Goals as goal

pub returns-clause-cells : goal.returns-clause-cells
returns-clause-cells c = λ x held.
    let a = c.args in
    let e = c.shapes-shape.result.0 in
    let out = c.shapes-shape.result.1 in
    let rows = c.span_of-rows.result in
    let cols = c.span_of-cols.result in
    let inside : holds e x ≡ true =
    subst (λ (d : Extent). holds d x ≡ true) (sym c.shapes-shape.ensures.input) held in
    let of_rows = rw (c.height.ensures.value, c.row_in.ensures.value) at c.span_of-rows.ensures.block in
    let low = rw c.height.ensures.value at c.span_of-rows.ensures.within in
    let wide = ap (λ (d : Extent). d.cols) c.shape.view_is in
    c.shapes-shape.ensures.relation a.out x
    ∙ (rw (c.top_of-top.ensures.value, c.layer_of.ensures.value)
    (block-window e out a.how a.h a.w rows.from rows.to cols.from cols.to a.out x c.shapes-shape.ensures.blocked.right
    inside low of_rows (rw wide at c.span_of-cols.ensures.block)))

-- One value more.
use Rattle.std.proofs.Common.{◌≡◌, map, ap, ◌∙◌, arith}
use Rattle.std.specs.Arc.{arc_value}
use Rattle.sz_cells.specs.Extent.{Extent}
use Rattle.sz_ops_window.proofs.Sweeps.{one-value}
use Rattle.sz_ops_window.proofs.sweep.append_values.Goals as goal

pub loop-col-preserved : goal.loop-col-preserved
loop-col-preserved c =
    let s = c.args.at.now in
    let grids = map (λ a. arc_value a) c.args.inputs.now in
    let cols : c.shape.inside.cols ≡ s.out.cols =
    ap (λ (e : Extent). e.cols) (c.shape.view_is ∙ c.same_shape-shape.ensures.out) in
    one-value s grids c.args.mask.now c.args.row c.loop-col.col c.input_of-array.result.now c.value.result
    c.loop-col.values.items c.push.new.self.items c.requires.op c.requires.right
    (omega (arith, c.loop-col-test.true, cols)) c.input_of-array.ensures.value c.value.ensures c.loop-col.invariant
    c.in_ok-push.ensures.items

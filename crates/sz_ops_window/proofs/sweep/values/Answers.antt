-- What was prepared is what each row needs, and the sums of a row are its values.
use Rattle.std.proofs.Common.{◌*◌, List, map, ap, ◌∙◌}
use Rattle.std.specs.Arc.{arc_value}
use Rattle.sz_cells.specs.Extent.{Extent}
use Rattle.sz_spec.specs.Values.{extent_at}
use Rattle.sz_ops_window.proofs.Sweeps.{all-taps}
use Rattle.sz_ops_window.proofs.sweep.values.Goals as goal

pub append_sums-requires-clause-sums : goal.append_sums-requires-clause-sums
append_sums-requires-clause-sums c = λ k low.
    let s = c.args.at.now in
    let w = c.args.mask.now in
    let limits = c.limits_of-limits.result in
    all-taps s (map (λ a. arc_value a) c.args.inputs.now) w c.loop-row.row k (limits.weight * limits.number)
    c.input_of-array.result.now c.in_ok-sums.sums.sums.items c.in_ok-sums.sums.marks.items c.requires.op
    c.requires.right low c.input_of-array.ensures.value
    (c.input_of-array.ensures.shape ∙ ap (λ (es : List Extent). extent_at es 0) c.same_shape-shape.ensures.ins)
    c.a_mask_is_a_kernel.ensures limits.fits c.in_ok-sums.ensures.sums

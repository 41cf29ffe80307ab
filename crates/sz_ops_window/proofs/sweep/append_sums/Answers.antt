-- One value more.
use Rattle.std.proofs.Common.{◌≡◌, ◌+◌, ◌*◌, ◌<◌, map, ap, ap₂, ◌∙◌, arith, refl, get_or, rules, List, length}
use Rattle.std.proofs.Common.{FitsSigned, w32, Bool, false}
use Rattle.std.specs.Prelude.{ℤ, pos}
use Rattle.std.specs.Arc.{arc_value}
use Rattle.std.proofs.lemmas.Int.{to_z-of_z}
use Rattle.sz_cells.specs.Extent.{cell_of}
use Rattle.sz_spec.specs.Evaluation.{value_of}
use Rattle.sz_frame.specs.Walks.{values_before}
use Rattle.sz_frame.proofs.Added.{values-next}
use Rattle.sz_ops_window.specs.Sweeps.{unless}
use Rattle.sz_ops_window.proofs.sweep.append_sums.Goals as goal

pub loop-k-preserved : goal.loop-k-preserved
loop-k-preserved c =
    let s = c.args.at.now in
    let grids = map (λ a. arc_value a) c.args._inputs.now in
    let k = c.loop-k.k in
    let n = c.args._row * s.out.cols + k in
    let next : n + 1 ≡ c.args._row * s.out.cols + (k + 1) = omega arith in
    let zs = c.as_slice-sums.result.now in
    let bs = c.as_slice-marks.result.now in
    let z = get_or zs k (pos 0) in
    let small : FitsSigned w32 z = search rules in
    let long = ap (λ (ys : List ℤ). length ys) c.as_slice-sums.ensures.value in
    let low : k < s.out.cols = omega (arith, c.loop-k-test.true, c.requires.long, long) in
    let told : c.value_unless.result ≡ unless (get_or bs k false) z =
    c.value_unless.ensures ∙ ap (λ (y : ℤ). unless (get_or bs k false) y) (to_z-of_z w32 z small) in
    let value : unless (get_or bs k false) z ≡ value_of s.op grids (cell_of s.out n) =
    ap₂ (λ (xs : List Bool) (ys : List ℤ). unless (get_or xs k false) (get_or ys k (pos 0)))
    c.as_slice-marks.ensures.value c.as_slice-sums.ensures.value
    ∙ c.requires.sums k low in
    values-next s grids n (cell_of s.out n) c.value_unless.result c.loop-k.values.items c.push.new.self.items
    c.loop-k.invariant refl (told ∙ value) c.in_ok-push.ensures.items
    ∙ ap (values_before s grids) next

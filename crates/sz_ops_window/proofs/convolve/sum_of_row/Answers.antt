-- Each column in reach adds what its tap adds, and an empty cell empties the row.
use Rattle.std.proofs.Common.{◌≡◌, ℕ, ◌≤◌, ◌<◌, ◌*◌, ◌+◌, ◌-◌, sym, ap, ◌∙◌, arith, rules}
use Rattle.std.proofs.Common.{to_z, of_z, w64, get_or, None}
use Rattle.std.proofs.lemmas.Int.{to_z-of_z}
use Rattle.std.specs.Prelude.{pos, ◌+ℤ◌}
use Rattle.std.specs.Int.{w128}
use Rattle.sz_spec.specs.Weights.{is_weight}
use Rattle.sz_ops_window.specs.Sums.{sum_from, part_of, IsWithin}
use Rattle.sz_ops_window.proofs.Sums.{IsReach, kernel-sides, under-reach, part-read}
use Rattle.sz_ops_window.proofs.Walks.{cols-next, row-reach, row-none, within-plus, within-more, fits-within}
use Rattle.sz_ops_window.proofs.Walks.{told-sum, given-lies}
use Rattle.sz_ops_window.proofs.convolve.sum_of_row.Goals.{After-weights_of_row-weights, After-times}
use Rattle.sz_ops_window.proofs.convolve.sum_of_row.Goals as goal

lies : (c : After-weights_of_row-weights) → IsReach c.args.mask.now c.args.reach
lies c =
    given-lies c.args.array.now.extent c.args.mask.now c.args.out c.args.reach c.requires.shape c.requires.out
    c.requires.kernel c.requires.reach

-- what the tap of the column adds
told : (c : After-times)
    → c.times.result ≡ part_of c.args.array.now c.args.mask.now c.args.out
    (c.args.row * c.args.mask.now.cols + (c.args.reach.left + c.loop-k.k))
told c =
    let g = c.args.array.now in
    let w = c.args.mask.now in
    let k = c.loop-k.k in
    let weight = get_or c.weights_of_row-weights.result.now k (pos 0) in
    let same : to_z w64 (of_z w64 weight) ≡ weight = to_z-of_z w64 weight (search rules) in
    let low : k < c.args.reach.right - c.args.reach.left =
    omega (arith, c.weights_of_row-weights.ensures.long, c.loop-k-test.true) in
    (rw same at c.times.ensures.value)
    ∙ part-read g w c.args.out c.args.row (c.args.reach.left + k) weight
    (get_or c.values_under-values.result.now k None)
    (under-reach g.extent w c.args.out c.args.reach c.args.row (c.args.reach.left + k) c.requires.shape c.requires.out
    c.requires.reach c.requires.top c.requires.bottom (omega arith) (omega (arith, low)))
    (c.weights_of_row-weights.ensures.each k low) (c.values_under-values.ensures.each k low)

pub weights_of_row-weights-requires : goal.weights_of_row-weights-requires
weights_of_row-weights-requires c =
    let r = given-lies c.args.array.now.extent c.args.mask.now c.args.out c.args.reach c.requires.shape c.requires.out
    c.requires.kernel c.requires.reach in
    record { row = omega (arith, r.bottom, c.requires.bottom); cols = r.cols; right = r.right }

pub times-requires : goal.times-requires
times-requires c =
    let weight = get_or c.weights_of_row-weights.result.now c.loop-k.k (pos 0) in
    let same : to_z w64 (of_z w64 weight) ≡ weight = to_z-of_z w64 weight (search rules) in
    ap is_weight same
    ∙ c.weights_of_row-weights.ensures.small c.loop-k.k
    (omega (arith, c.weights_of_row-weights.ensures.long, c.loop-k-test.true))

pub returns-in_err-sum-clause-sum : goal.returns-in_err-sum-clause-sum
returns-in_err-sum-clause-sum c =
    let r = lies (goal.at.returns-in_err-sum-clause-sum c).After-weights_of_row-weights in
    c.from_residual.ensures
    ∙ sym (row-none c.args.array.now c.args.mask.now c.args.out c.args.row (c.args.reach.left + c.loop-k.k)
    (omega (arith, r.right, c.weights_of_row-weights.ensures.long, c.loop-k-test.true))
    (sym (told (goal.at.returns-in_err-sum-clause-sum c).After-times) ∙ c.in_err-sum.was))

pub loop-k-preserved : goal.loop-k-preserved
loop-k-preserved c =
    let g = c.args.array.now in
    let w = c.args.mask.now in
    let k = c.loop-k.k in
    let r = lies (goal.at.loop-k-preserved c).After-weights_of_row-weights in
    let sides = kernel-sides w c.requires.kernel in
    let s = to_z w128 c.loop-k.sum-bits in
    let b = c.in_ok-sum.field-0 in
    let small : IsWithin (k + 1) (s +ℤ b) = within-plus k 1 s b c.loop-k.invariant.1 c.in_ok-sum.ensures.bound in
    let few : k + 1 ≤ 1000 =
    omega (arith, r.right, c.weights_of_row-weights.ensures.long, c.loop-k-test.true, sides.1) in
    rw (told-sum s b (fits-within 1 b (omega arith) c.in_ok-sum.ensures.bound)
    (fits-within (k + 1) (s +ℤ b) few small)) (
      cols-next g w c.args.out c.args.row c.args.reach.left k s b c.loop-k.invariant.0
          (sym c.in_ok-sum.was ∙ told (goal.at.loop-k-preserved c).After-times),
      small,
    )

pub returns-clause-sum : goal.returns-clause-sum
returns-clause-sum c =
    let g = c.args.array.now in
    let w = c.args.mask.now in
    let r = lies (goal.at.returns-clause-sum c).After-weights_of_row-weights in
    let last : c.loop-k.k ≡ c.args.reach.right - c.args.reach.left =
    omega (arith, c.loop-k.auto.k-end, c.loop-k-test.false, c.weights_of_row-weights.ensures.long) in
    c.loop-k.invariant.0
    ∙ ap (λ (n : ℕ). sum_from g w c.args.out (c.args.row * w.cols + c.args.reach.left) n) last
    ∙ row-reach g w c.args.out c.args.reach c.args.row c.requires.shape c.requires.out c.requires.kernel
    c.requires.reach (omega (arith, r.bottom, c.requires.bottom))

pub returns-clause-bound : goal.returns-clause-bound
returns-clause-bound c =
    let r = lies (goal.at.returns-clause-bound c).After-weights_of_row-weights in
    let sides = kernel-sides c.args.mask.now c.requires.kernel in
    within-more c.loop-k.k 9 (to_z w128 c.loop-k.sum-bits)
    (omega (arith, r.right, sides.1, c.loop-k.auto.k-end, c.weights_of_row-weights.ensures.long))
    c.loop-k.invariant.1

-- Each row in reach adds its sum, and an empty one empties the whole.
use Rattle.std.proofs.Common.{◌≡◌, ℕ, ◌≤◌, ◌*◌, ◌+◌, sym, subst, ◌∙◌, arith, to_z}
use Rattle.std.specs.Prelude.{◌+ℤ◌}
use Rattle.std.specs.Int.{w128}
use Rattle.std.proofs.lemmas.Int.{to_z-of_z}
use Rattle.sz_ops_window.specs.Sums.{IsWithin}
use Rattle.sz_ops_window.proofs.Sums.{kernel-sides, IsReach}
use Rattle.sz_ops_window.proofs.Walks.{rows-first, rows-next, rows-none, rows-all, within-plus}
use Rattle.sz_ops_window.proofs.Walks.{fits-within, told-sum, given-lies}
use Rattle.sz_ops_window.proofs.convolve.sum_of_rows.Goals.{After-sum_of_row, In_ok-sum}
use Rattle.sz_ops_window.proofs.convolve.sum_of_rows.Goals as goal

pub loop-row-init : goal.loop-row-init
loop-row-init c = (
  rows-first c.args.array.now c.args.mask.now c.args.out c.args.reach c.requires.shape c.requires.out
      c.requires.kernel c.requires.reach,
  omega arith,
)

lies : (c : After-sum_of_row) → IsReach c.args.mask.now c.args.reach
lies c =
    given-lies c.args.array.now.extent c.args.mask.now c.args.out c.args.reach c.requires.shape c.requires.out
    c.requires.kernel c.requires.reach

few : (c : After-sum_of_row) → c.loop-row.row * 9 + 9 ≤ 1000
few c = omega (arith, (lies c).bottom, c.loop-row-test.true, (kernel-sides c.args.mask.now c.requires.kernel).0)

-- with one row more the sum is not large
small : (c : In_ok-sum) → IsWithin (c.loop-row.row * 9 + 9) (to_z w128 c.loop-row.sum-bits +ℤ c.in_ok-sum.field-0)
small c =
    within-plus (c.loop-row.row * 9) 9 (to_z w128 c.loop-row.sum-bits) c.in_ok-sum.field-0 c.loop-row.invariant.1
    c.in_ok-sum.ensures.bound

pub returns-in_err-sum : goal.returns-in_err-sum
returns-in_err-sum c =
    let r = lies (goal.at.returns-in_err-sum c).After-sum_of_row in
    c.from_residual.ensures
    ∙ sym (rows-none c.args.array.now c.args.mask.now c.args.out c.loop-row.row
    (omega (arith, r.bottom, c.loop-row-test.true)) (sym c.sum_of_row.ensures.sum ∙ c.in_err-sum.was))

pub overflow_add-sum : goal.overflow_add-sum
overflow_add-sum c =
    let s = goal.at.overflow_add-sum c in
    let b = c.in_ok-sum.field-0 in
    rw (to_z-of_z w128 b (fits-within 9 b (omega arith) c.in_ok-sum.ensures.bound))
    (fits-within (c.loop-row.row * 9 + 9) (to_z w128 c.loop-row.sum-bits +ℤ b) (few s.After-sum_of_row)
    (small s.In_ok-sum))

pub loop-row-preserved : goal.loop-row-preserved
loop-row-preserved c =
    let here = goal.at.loop-row-preserved c in
    let s = to_z w128 c.loop-row.sum-bits in
    let b = c.in_ok-sum.field-0 in
    let next : c.loop-row.row * 9 + 9 ≡ (c.loop-row.row + 1) * 9 = omega arith in
    rw (told-sum s b (fits-within 9 b (omega arith) c.in_ok-sum.ensures.bound)
    (fits-within (c.loop-row.row * 9 + 9) (s +ℤ b) (few here.After-sum_of_row) (small here.In_ok-sum))) (
      rows-next c.args.array.now c.args.mask.now c.args.out c.loop-row.row s b c.loop-row.invariant.0
          (sym c.in_ok-sum.was ∙ c.sum_of_row.ensures.sum),
      subst (λ (n : ℕ). IsWithin n (s +ℤ b)) next (small here.In_ok-sum),
    )

pub returns : goal.returns
returns c =
    let g = c.args.array.now in
    let w = c.args.mask.now in
    let lies = given-lies g.extent w c.args.out c.args.reach c.requires.shape c.requires.out c.requires.kernel
    c.requires.reach in
    let last : c.loop-row.row ≡ c.args.reach.bottom =
    omega (arith, c.loop-row.auto.row-end lies.rows, c.loop-row-test.false) in
    rows-all g w c.args.out c.args.reach c.loop-row.row (to_z w128 c.loop-row.sum-bits) c.requires.shape
    c.requires.out c.requires.kernel c.requires.reach last c.loop-row.invariant.0

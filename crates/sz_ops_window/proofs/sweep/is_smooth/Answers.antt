-- The rows under the kernel are rows of the array.
use Rattle.std.proofs.Common.{◌≡◌, ◌+◌, ◌-◌, ◌/◌, ◌<◌, ◌≤◌, true, inl, inr, arith, ap, subst}
use Rattle.std.proofs.Common.{rules}
use Rattle.std.proofs.lemmas.Bool.Decides.{eqb_tells}
use Rattle.sz_cells.specs.Extent.{is_extent}
use Rattle.sz_frame.proofs.Places.{are-small}
use Rattle.sz_spec.specs.Weights.{Weights, is_kernel}
use Rattle.sz_ops_window.specs.declared.window.Window.{Window}
use Rattle.sz_ops_window.proofs.Sums.{kernel-sides}
use Rattle.sz_ops_window.proofs.Sweeps.{row-under}
use Rattle.sz_ops_window.proofs.sweep.is_smooth.Goals.{In-loop-k}
use Rattle.sz_ops_window.proofs.sweep.is_smooth.Goals as goal

right : (c : In-loop-k) → is_extent c.args.array.now.extent ≡ true
right c = rw c.shape-shape.ensures at c.a_shape_is_within_limits.ensures

under : (c : In-loop-k)
    → (c.args.mask.now.rows / 2 ≤ c.args.row + c.loop-k.k)
    × ((c.args.row + c.loop-k.k) - c.args.mask.now.rows / 2 < c.args.array.now.extent.rows)
under c =
    row-under c.args.array.now.extent c.args.mask.now c.args.row c.loop-k.k c.args.reach (right c) c.requires.row
    c.requires.reach c.loop-k.auto.k c.loop-k-test.true

pub loop-k-init : goal.loop-k-init
loop-k-init c = λ k from to. absurd (omega (arith, from, to))

pub overflow_add-row : goal.overflow_add-row
overflow_add-row c =
    let small = are-small c.args.array.now.extent (right c) in
    let reach = ap (λ (r : Window). r.bottom) c.requires.reach in
    let kernel : is_kernel c.args.mask.now ≡ true =
    subst (λ (v : Weights). is_kernel v ≡ true) c.mask.view_is c.mask.invariant in
    let sides = kernel-sides c.args.mask.now kernel in
    record { fits = omega (arith, small.rows, c.requires.row, c.loop-k-test.true, reach, sides.0) }

pub bounds-plain-row : goal.bounds-plain-row
bounds-plain-row c =
    let at = (goal.at.bounds-plain-row c).In-loop-k in
    let rows = ap (λ (v : Weights). v.rows) c.mask.view_is in
    omega (arith, (under at).1, c.requires.long, rows)

pub loop-k-preserved : goal.loop-k-preserved
loop-k-preserved c = λ k from to.
    let rows = ap (λ (v : Weights). v.rows) c.mask.view_is in
    elim (eqb_tells k c.loop-k.k) [
      | inl at ↦ rw (at.1, ← rows) (search rules)
      | inr apart ↦ c.loop-k.invariant k from (omega (arith, to, apart.1))
    ]

pub returns : goal.returns
returns c = λ is k from to.
    let top = ap (λ (r : Window). r.top) c.requires.reach in
    let bottom = ap (λ (r : Window). r.bottom) c.requires.reach in
    c.requires.plain ((c.args.row + k) - c.args.mask.now.rows / 2)
    (c.loop-k.invariant k (omega (arith, from, top)) (omega (arith, to, bottom, c.loop-k-test.false)))

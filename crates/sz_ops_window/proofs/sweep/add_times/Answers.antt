-- A product and a sum of few of them fit, and each sum is written once.
use Rattle.std.proofs.Common.{◌≡◌, ◌+◌, ◌*◌, ◌<◌, ◌≤◌, ◌^◌, arith, rules, sym, subst, ◌∙◌, ap, get_or, get_or-set_other}
use Rattle.std.proofs.Common.{get_or-set_same, below_more, length, FitsSigned, w32}
use Rattle.std.specs.Prelude.{ℤ, pos, ◌+ℤ◌, ◌*ℤ◌}
use Rattle.std.specs.Int.RustNames.{unsigned_abs}
use Rattle.std.proofs.lemmas.Int.{to_z-of_z, fits_signed_mul}
use Rattle.sz_ops_window.proofs.Sweeps.{product-within, sum-within, within-fits, more}
use Rattle.sz_ops_window.proofs.sweep.add_times.Goals.{In-loop-k}
use Rattle.sz_ops_window.proofs.sweep.add_times.Goals as goal

-- the sum, the number and their product fit
record AreRight (c : In-loop-k) : Type 0 where
  pub number : FitsSigned w32 (get_or c.args.numbers.now (c.args.start + c.loop-k.k) (pos 0))
  pub product : FitsSigned w32 (c.args.weight *ℤ get_or c.args.numbers.now (c.args.start + c.loop-k.k) (pos 0))
  pub sum : FitsSigned w32 (get_or c.loop-k.sums (c.args.first + c.loop-k.k) (pos 0))
  pub both : FitsSigned w32 (get_or c.loop-k.sums (c.args.first + c.loop-k.k) (pos 0)
      +ℤ c.args.weight *ℤ get_or c.args.numbers.now (c.args.start + c.loop-k.k) (pos 0))

are-right : (c : In-loop-k) → AreRight c
are-right c =
    let w = c.args.weight in
    let x = get_or c.args.numbers.now (c.args.start + c.loop-k.k) (pos 0) in
    let s = get_or c.loop-k.sums (c.args.first + c.loop-k.k) (pos 0) in
    let most = c.args.limits.weight * c.args.limits.number in
    let small : unsigned_abs x ≤ c.args.limits.number =
    c.requires.numbers (c.args.start + c.loop-k.k) (omega (arith, c.requires.within, c.loop-k-test.true)) in
    let old : s ≡ get_or c.args.sums.now (c.args.first + c.loop-k.k) (pos 0) =
    c.loop-k.invariant.behind (c.args.first + c.loop-k.k) (omega arith) in
    let so_far : unsigned_abs s ≤ c.args.taps * most =
    subst (λ (z : ℤ). unsigned_abs z ≤ c.args.taps * most) (sym old)
    (c.requires.sums (c.args.first + c.loop-k.k) (omega (arith, c.requires.room, c.loop-k-test.true))) in
    let fits : 81 * most < 2 ^ 31 = c.args.limits.fits in
    record {
      number = search rules;
      product = fits_signed_mul w32 w x c.args.limits.weight c.args.limits.number c.requires.weight small
          (omega (arith, fits));
      sum = within-fits s c.args.taps most c.requires.taps fits (more c.args.taps most (unsigned_abs s) so_far);
      both = within-fits (s +ℤ w *ℤ x) c.args.taps most c.requires.taps fits
          (sum-within s (w *ℤ x) c.args.taps most so_far
          (product-within w x c.args.limits.weight c.args.limits.number c.requires.weight small));
    }

pub overflow_mul-sums : goal.overflow_mul-sums
overflow_mul-sums c =
    let right = are-right (goal.at.overflow_mul-sums c).In-loop-k in
    let x = get_or c.args.numbers.now (c.args.start + c.loop-k.k) (pos 0) in
    rw (to_z-of_z w32 c.args.weight c.ranges.weight, to_z-of_z w32 x right.number) right.product

pub overflow_add-sums-in-loop-k-2 : goal.overflow_add-sums-in-loop-k-2
overflow_add-sums-in-loop-k-2 c =
    let right = are-right (goal.at.overflow_add-sums-in-loop-k-2 c).In-loop-k in
    let w = c.args.weight in
    let x = get_or c.args.numbers.now (c.args.start + c.loop-k.k) (pos 0) in
    let s = get_or c.loop-k.sums (c.args.first + c.loop-k.k) (pos 0) in
    rw (
      to_z-of_z w32 w c.ranges.weight,
      to_z-of_z w32 x right.number,
      to_z-of_z w32 (w *ℤ x) right.product,
      to_z-of_z w32 s right.sum,
    ) right.both

pub loop-k-preserved : goal.loop-k-preserved
loop-k-preserved c =
    let right = are-right (goal.at.loop-k-preserved c).In-loop-k in
    let w = c.args.weight in
    let k = c.loop-k.k in
    let first = c.args.first in
    let sums = c.loop-k.sums in
    let x = get_or c.args.numbers.now (c.args.start + k) (pos 0) in
    let s = get_or sums (first + k) (pos 0) in
    let v = s +ℤ w *ℤ x in
    let inside : first + k < length sums = omega (arith, c.loop-k.auto.sums, c.requires.room, c.loop-k-test.true) in
    rw (
      to_z-of_z w32 w c.ranges.weight,
      to_z-of_z w32 x right.number,
      to_z-of_z w32 (w *ℤ x) right.product,
      to_z-of_z w32 s right.sum,
      to_z-of_z w32 v right.both,
    )
    (record {
      added = below_more _ _
          (λ i low.
          get_or-set_other sums (first + k) (first + i) v (pos 0) (omega (arith, low))
          ∙ c.loop-k.invariant.added i low
          ∙ ap (λ (z : ℤ). get_or c.args.sums.now (first + i) (pos 0)
          +ℤ z *ℤ get_or c.args.numbers.now (c.args.start + i) (pos 0)) (to_z-of_z w32 w c.ranges.weight))
          (get_or-set_same sums (first + k) v (pos 0) inside
          ∙ ap (λ (z : ℤ). z +ℤ w *ℤ x) (c.loop-k.invariant.behind (first + k) (omega arith)));
      before = λ i low.
          get_or-set_other sums (first + k) i v (pos 0) (omega (arith, low)) ∙ c.loop-k.invariant.before i low;
      behind = λ i past.
          get_or-set_other sums (first + k) i v (pos 0) (omega (arith, past))
          ∙ c.loop-k.invariant.behind i (omega (arith, past));
    })

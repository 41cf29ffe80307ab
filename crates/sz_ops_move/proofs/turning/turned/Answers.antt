-- A strip lies in one layer, and its rows are what comes behind the values so far.
use Rattle.std.proofs.Common.{◌≡◌, ◌+◌, ◌-◌, ◌<◌, ◌≤◌, ◌*◌, ◌/◌, ◌%◌, ℕ, List, Option, map, length, ap, subst, ◌∙◌}
use Rattle.std.proofs.Common.{sym, arith}
use Rattle.std.specs.Prelude.{ℤ}
use Rattle.std.specs.Arc.{arc_value}
use Rattle.sz_cells.specs.Extent.{size_of, height_of}
use Rattle.sz_spec.specs.Values.{Grid, extent_at, input_at}
use Rattle.sz_frame.specs.Walks.{values_before}
use Rattle.sz_ops_move.specs.Turning.{IsStrip}
use Rattle.sz_ops_move.proofs.Turned.{within, row-within, strip-sides}
use Rattle.sz_ops_move.proofs.turning.turned.Goals.{After-wide_at-wide}
use Rattle.sz_ops_move.proofs.turning.turned.Goals as goal

-- the strip's row is one of the output
below : (c : After-wide_at-wide) → c.loop-row.row < (extent_at c.args.at.now.ins 0).layers * c.sides_of-height.result.1
below c = omega (arith, c.loop-row-test.true, c.sides_of-height.ensures.rows)

-- so its cells are cells of the input
inside : (c : After-wide_at-wide) (r : ℕ) → r < c.sides_of-height.result.0
    → c.loop-row.row / c.sides_of-height.result.1 * c.sides_of-height.result.0 * c.sides_of-height.result.1
    + c.loop-row.row % c.sides_of-height.result.1 + r * c.sides_of-height.result.1 + c.wide_at-wide.result
    ≤ size_of (extent_at c.args.at.now.ins 0)
inside c r low =
    let k = c.sides_of-height.ensures in
    omega (
      arith,
      within (extent_at c.args.at.now.ins 0).layers c.sides_of-height.result.0 c.sides_of-height.result.1
          c.loop-row.row c.wide_at-wide.result r k.wide (below c) c.wide_at-wide.ensures.within low,
      k.size,
    )

pub fill_strip-requires-clause-within : goal.fill_strip-requires-clause-within
fill_strip-requires-clause-within c = λ r low.
    let size : length c.cells-cells.result.now ≡ size_of (extent_at c.args.at.now.ins 0) =
    c.cells-cells.ensures.count ∙ ap size_of c.input_of.ensures.shape in
    omega (arith, inside (goal.at.fill_strip-requires-clause-within c).After-wide_at-wide r low, size)

pub overflow_mul-first-in-loop-row : goal.overflow_mul-first-in-loop-row
overflow_mul-first-in-loop-row c =
    let k = c.sides_of-height.ensures in
    let all = inside (goal.at.overflow_mul-first-in-loop-row c).After-wide_at-wide 0 k.tall in
    record { fits = omega (arith, all, k.small) }

pub overflow_add-first : goal.overflow_add-first
overflow_add-first c =
    let k = c.sides_of-height.ensures in
    let all = inside (goal.at.overflow_add-first c).After-wide_at-wide 0 k.tall in
    record { fits = omega (arith, all, k.small) }

pub append_rows-requires-clause-low : goal.append_rows-requires-clause-low
append_rows-requires-clause-low c =
    let e = extent_at c.args.at.now.ins 0 in
    let k = c.sides_of-height.ensures in
    subst (λ (n : ℕ). c.loop-row.row < e.layers * n) k.cols (omega (arith, c.loop-row-test.true, k.rows))

pub append_rows-requires-clause-within : goal.append_rows-requires-clause-within
append_rows-requires-clause-within c =
    subst (λ (n : ℕ). c.wide_at-wide.result ≤ n - c.loop-row.row % n) c.sides_of-height.ensures.cols
    c.wide_at-wide.ensures.within

pub append_rows-requires-clause-strip : goal.append_rows-requires-clause-strip
append_rows-requires-clause-strip c =
    let e = extent_at c.args.at.now.ins 0 in
    let k = c.sides_of-height.ensures in
    let h = c.sides_of-height.result.0 in
    let w = c.sides_of-height.result.1 in
    let row = c.loop-row.row in
    let wide = c.wide_at-wide.result in
    let values = c.cells-cells.ensures.values ∙ ap (λ (g : Grid). g.values) c.input_of.ensures.value in
    let strip = subst
    (λ (xs : List (Option ℤ)). IsStrip xs c.fill_strip.new.strip (h + 4) w (row / w * h * w + row % w) wide h) values
    c.fill_strip.ensures in
    strip-sides (input_at (map (λ a. arc_value a) c.args.inputs.now) 0).values c.fill_strip.new.strip (h + 4) h
    (height_of e) w e.cols row wide k.height k.cols strip

pub append_rows-requires-clause-made : goal.append_rows-requires-clause-made
append_rows-requires-clause-made c =
    c.loop-row.invariant.made
    ∙ ap (λ (n : ℕ). values_before c.args.at.now (map (λ a. arc_value a) c.args.inputs.now) (c.loop-row.row * n))
    c.sides_of-height.ensures.height

pub loop-row-preserved : goal.loop-row-preserved
loop-row-preserved c =
    let inv = c.loop-row.invariant in
    let s = c.args.at.now in
    let k = c.sides_of-height.ensures in
    let row = c.loop-row.row in
    let wide = c.wide_at-wide.result in
    let ends = row-within (extent_at s.ins 0).layers c.sides_of-height.result.1 row wide k.wide
    (below (goal.at.loop-row-preserved c).After-wide_at-wide) c.wide_at-wide.ensures.within in
    record {
      strip = c.fill_strip.auto.strip ∙ inv.strip;
      made = c.in_ok-append_rows.ensures
          ∙ ap (λ (n : ℕ). values_before s (map (λ a. arc_value a) c.args.inputs.now) ((row + wide) * n))
          (sym k.height);
      low = omega (arith, ends, k.rows);
    }

-- A tap adds its weight times the number under it, and nothing where it lies on no cell.
use Rattle.std.proofs.Common.{◌≡◌, ℕ, ◌+◌, ◌-◌, ◌*◌, ◌/◌, ◌%◌, ◌<◌, ◌≤◌, true, false, arith, rules, ap, ap₂, sym}
use Rattle.std.proofs.Common.{subst}
use Rattle.std.proofs.Common.{◌∙◌}
use Rattle.std.proofs.Common.{get_or, length, inl, inr, None, refl, FitsSigned, to_z, of_z, w32}
use Rattle.std.proofs.lemmas.Int.{to_z-of_z}
use Rattle.std.specs.Prelude.{ℤ, pos, min, ◌+ℤ◌, ◌*ℤ◌, List, Option}
use Rattle.std.specs.Int.RustNames.{unsigned_abs}
use Rattle.sz_cells.specs.Extent.{Extent, is_extent, size_of}
use Rattle.sz_frame.proofs.Places.{are-small}
use Rattle.sz_spec.specs.Weights.{Weights, is_kernel, tap_at, is_zero}
use Rattle.sz_ops_window.specs.declared.window.Window.{Window}
use Rattle.sz_ops_window.specs.Sums.{reach_of}
use Rattle.sz_ops_window.proofs.Sums.{IsUnder, AreFew, are-few}
use Rattle.sz_ops_window.proofs.Sweeps.{at, number-small, few-taps, zero-tells, other-tells, weightless, above-below}
use Rattle.sz_ops_window.proofs.Sweeps.{row-nothing, under-at, swept}
use Rattle.sz_ops_window.proofs.sweep.add_tap.Goals.{After-reached-first}
use Rattle.sz_ops_window.proofs.sweep.add_tap.Goals.{then-weight-eq0-via-then-weight-eq0}
use Rattle.sz_ops_window.proofs.sweep.add_tap.Goals.{then-weight-eq0-via-else-weight-eq0+then-down-reach}
use Rattle.sz_ops_window.proofs.sweep.add_tap.Goals.{then-weight-eq0-via-else-weight-eq0+else-down-reach+then-reach-down}
use Rattle.sz_ops_window.proofs.sweep.add_tap.Goals as goal

pub returns-then-weight-eq0-clause-sums : goal.returns-then-weight-eq0-clause-sums
returns-then-weight-eq0-clause-sums c =
    let g = c.args.array.now in
    let w = c.args.mask.now in
    let n = c.args.number in
    let kernel = c.a_mask_is_a_kernel.ensures in
    let most = c.args.limits.weight * c.args.limits.number in
    let cols : c.mask.inside.cols ≡ w.cols = ap (λ (v : Weights). v.cols) c.mask.view_is in
    let down : n / c.mask.inside.cols ≡ n / w.cols = ap (λ (m : ℕ). n / m) cols in
    let top = ap (λ (r : Window). r.top) c.requires.reach in
    let bottom = ap (λ (r : Window). r.bottom) c.requires.reach in
    row-nothing g w c.args.row n most c.args.sums.now c.args.marks.now
    (λ col low.
    elim c.then-weight-eq0.branch [
      | then-weight-eq0-via-then-weight-eq0 b ↦
          weightless g w (at c.args.row col) n
          (ap is_zero (sym c.weight_of-weight.ensures) ∙ zero-tells c.weight_of-weight.result (search rules))
      | then-weight-eq0-via-else-weight-eq0+then-down-reach b ↦
          above-below g w (at c.args.row col) n kernel c.requires.number
          (inl (omega (arith, b.if-down-reach.true, down, top)))
      | then-weight-eq0-via-else-weight-eq0+else-down-reach+then-reach-down b ↦
          above-below g w (at c.args.row col) n kernel c.requires.number
          (inr (omega (arith, b.if-reach-down.true, down, bottom)))
    ])
    c.requires.sums

-- what is known once the weight is one that counts
record IsOn (c : After-reached-first) : Type 0 where
  pub right : is_extent c.args.array.now.extent ≡ true
  pub kernel : is_kernel c.args.mask.now ≡ true
  pub cols : c.mask.inside.cols ≡ c.args.mask.now.cols
  pub rows : c.mask.inside.rows ≡ c.args.mask.now.rows
  pub wide : c.shape.inside.cols ≡ c.args.array.now.extent.cols
  pub starts : c.reached-first.result.0
      ≡ min c.args.array.now.extent.cols (c.args.mask.now.cols / 2 - c.args.number % c.args.mask.now.cols)
  pub ends : c.reached-first.result.1
      ≡ min c.args.array.now.extent.cols ((c.args.array.now.extent.cols + c.args.mask.now.cols / 2)
      - c.args.number % c.args.mask.now.cols)
  pub top : (reach_of c.args.array.now.extent c.args.mask.now (at c.args.row 0)).top
      ≤ c.args.number / c.args.mask.now.cols
  pub bottom : c.args.number / c.args.mask.now.cols
      < (reach_of c.args.array.now.extent c.args.mask.now (at c.args.row 0)).bottom
  pub size : size_of c.args.array.now.extent ≡ length c.args.array.now.values
  pub some : is_zero (tap_at c.args.mask.now c.args.number).weight ≡ false

is-on : (c : After-reached-first) → IsOn c
is-on c =
    let w = c.args.mask.now in
    let n = c.args.number in
    let cols : c.mask.inside.cols ≡ w.cols = ap (λ (v : Weights). v.cols) c.mask.view_is in
    let wide : c.shape.inside.cols ≡ c.args.array.now.extent.cols =
    ap (λ (e : Extent). e.cols) (c.shape.view_is ∙ c.shape-shape.ensures) in
    let down : n / c.mask.inside.cols ≡ n / w.cols = ap (λ (m : ℕ). n / m) cols in
    let tops = ap (λ (r : Window). r.top) c.requires.reach in
    let bottoms = ap (λ (r : Window). r.bottom) c.requires.reach in
    record {
      right = rw c.shape-shape.ensures at c.a_shape_is_within_limits.ensures;
      kernel = c.a_mask_is_a_kernel.ensures;
      cols = cols;
      rows = ap (λ (v : Weights). v.rows) c.mask.view_is;
      wide = wide;
      starts = c.reached-first.ensures.first ∙ ap₂ (λ (a b : ℕ). min a (b / 2 - n % b)) wide cols;
      ends = c.reached-first.ensures.end ∙ ap₂ (λ (a b : ℕ). min a ((a + b / 2) - n % b)) wide cols;
      top = omega (arith, c.if-down-reach.false, down, tops);
      bottom = omega (arith, c.if-reach-down.false, down, bottoms);
      size = sym c.cells.ensures.count ∙ ap (λ (xs : List (Option ℤ)). length xs) c.cells.ensures.values;
      some = ap is_zero (sym c.weight_of-weight.ensures) ∙ other-tells c.weight_of-weight.result (search rules);
    }

-- no number on the way to a cell of the row is large
few : (c : After-reached-first) (col : ℕ) → c.reached-first.result.0 ≤ col → col < c.reached-first.result.1
    → AreFew (at c.args.row col) (c.args.number / c.mask.inside.cols) (c.args.number % c.mask.inside.cols)
    c.mask.inside.rows c.mask.inside.cols c.shape.inside.cols (size_of c.args.array.now.extent)
few c col from to =
    let on = is-on c in
    let e = c.args.array.now.extent in
    let w = c.args.mask.now in
    let n = c.args.number in
    let here : IsUnder e w (at c.args.row col) (n / w.cols) (n % w.cols) =
    under-at e w c.args.row col n c.reached-first.result.0 c.reached-first.result.1 on.right on.kernel c.requires.number
    c.requires.row on.starts on.ends from to on.top on.bottom in
    are-few e w (at c.args.row col) (n / c.mask.inside.cols) (n % c.mask.inside.cols) c.mask.inside.rows
    c.mask.inside.cols c.shape.inside.cols on.right on.kernel
    (subst (λ (m : ℕ). IsUnder e w (at c.args.row col) (n / m) (n % m)) (sym on.cols) here) on.rows on.cols on.wide

first : (c : After-reached-first) → c.reached-first.result.0 < c.reached-first.result.1
    → AreFew (at c.args.row c.reached-first.result.0) (c.args.number / c.mask.inside.cols)
    (c.args.number % c.mask.inside.cols) c.mask.inside.rows c.mask.inside.cols c.shape.inside.cols
    (size_of c.args.array.now.extent)
first c some = few c c.reached-first.result.0 (omega arith) some

-- all the cells under the tap are cells of the array
within : (c : After-reached-first) → c.reached-first.result.0 < c.reached-first.result.1
    → (((c.args.row + c.args.number / c.mask.inside.cols) - c.mask.inside.rows / 2) * c.shape.inside.cols
    + ((c.reached-first.result.0 + c.args.number % c.mask.inside.cols) - c.mask.inside.cols / 2))
    + (c.reached-first.result.1 - c.reached-first.result.0) ≤ length c.args.array.now.values
within c some =
    let end = few c (c.reached-first.result.1 - 1) (omega (arith, some)) (omega (arith, some)) in
    omega (arith, end.index, (first c some).before, some, (is-on c).size)

-- and the array is not large
sizes : (c : After-reached-first)
    → (length c.args.array.now.values ≤ 1048576) × (c.args.array.now.extent.cols ≤ 1048576)
sizes c =
    let on = is-on c in
    let small = are-small c.args.array.now.extent on.right in
    (omega (arith, small.size, on.size), omega (arith, small.cols))

pub reached-first-requires-clause-cols : goal.reached-first-requires-clause-cols
reached-first-requires-clause-cols c =
    let right : is_extent c.args.array.now.extent ≡ true =
    rw c.shape-shape.ensures at c.a_shape_is_within_limits.ensures in
    let wide : c.shape.inside.cols ≡ c.args.array.now.extent.cols =
    ap (λ (e : Extent). e.cols) (c.shape.view_is ∙ c.shape-shape.ensures) in
    let small = are-small c.args.array.now.extent right in
    omega (arith, small.cols, wide)

pub overflow_add-under : goal.overflow_add-under
overflow_add-under c =
    let low = first (goal.at.overflow_add-under c).After-reached-first c.if-first-end.true in
    record { fits = low.down }

pub overflow_mul-start : goal.overflow_mul-start
overflow_mul-start c =
    let low = first (goal.at.overflow_mul-start c).After-reached-first c.if-first-end.true in
    record { fits = low.start }

pub overflow_add-start-then-first-end : goal.overflow_add-start-then-first-end
overflow_add-start-then-first-end c =
    let low = first (goal.at.overflow_add-start-then-first-end c).After-reached-first c.if-first-end.true in
    record { fits = omega (arith, low.index, low.small) }

pub add_times-requires-clause-taps : goal.add_times-requires-clause-taps
add_times-requires-clause-taps c =
    let all = few-taps c.args.mask.now c.a_mask_is_a_kernel.ensures in
    omega (arith, all, c.requires.number)

pub add_times-requires-clause-numbers : goal.add_times-requires-clause-numbers
add_times-requires-clause-numbers c = λ k low.
    let most = c.args.limits.number in
    subst (λ (z : ℤ). unsigned_abs z ≤ most) (sym (c.requires.numbers.1 k (omega (arith, low, c.requires.numbers.0))))
    (number-small most (get_or c.args.array.now.values k None))

pub add_times-requires-clause-within : goal.add_times-requires-clause-within
add_times-requires-clause-within c =
    let all = within (goal.at.add_times-requires-clause-within c).After-reached-first c.if-first-end.true in
    omega (arith, all, c.requires.numbers.0)

pub add_times-requires-clause-few : goal.add_times-requires-clause-few
add_times-requires-clause-few c =
    omega (arith, (sizes (goal.at.add_times-requires-clause-few c).After-reached-first).0, c.requires.numbers.0)

pub add_times-requires-clause-short : goal.add_times-requires-clause-short
add_times-requires-clause-short c =
    omega (arith, (sizes (goal.at.add_times-requires-clause-short c).After-reached-first).1, c.requires.long)

pub bounds-sheet-under : goal.bounds-sheet-under
bounds-sheet-under c =
    let here = (goal.at.bounds-sheet-under c).After-reached-first in
    let on = is-on here in
    let e = c.args.array.now.extent in
    let w = c.args.mask.now in
    let n = c.args.number in
    let lies : IsUnder e w (at c.args.row c.reached-first.result.0) (n / w.cols) (n % w.cols) =
    under-at e w c.args.row c.reached-first.result.0 n c.reached-first.result.0 c.reached-first.result.1 on.right
    on.kernel c.requires.number c.requires.row on.starts on.ends (omega arith) c.if-first-end.true on.top on.bottom in
    let down : n / c.mask.inside.cols ≡ n / w.cols = ap (λ (m : ℕ). n / m) on.cols in
    omega (arith, lies.below, down, on.rows, c.requires.rows)

pub mark_where-requires : goal.mark_where-requires
mark_where-requires c =
    let here = (goal.at.mark_where-requires c).After-reached-first in
    let on = is-on here in
    let g = c.args.array.now in
    let w = c.args.mask.now in
    let n = c.args.number in
    let under = (c.args.row + n / c.mask.inside.cols) - c.mask.inside.rows / 2 in
    let begin = (c.reached-first.result.0 + n % c.mask.inside.cols) - c.mask.inside.cols / 2 in
    record {
      none = λ is k low.
          let x = ((c.reached-first.result.0 + k) + n % c.mask.inside.cols) - c.mask.inside.cols / 2 in
          let lies : IsUnder g.extent w (at c.args.row (c.reached-first.result.0 + k)) (n / w.cols) (n % w.cols) =
          under-at g.extent w c.args.row (c.reached-first.result.0 + k) n c.reached-first.result.0
          c.reached-first.result.1 on.right on.kernel c.requires.number c.requires.row on.starts on.ends (omega arith)
          (omega (arith, low, c.if-first-end.true)) on.top on.bottom in
          let behind : x < g.extent.cols = rw on.cols lies.behind in
          let from = first here c.if-first-end.true in
          let along : (under * c.shape.inside.cols + begin) + k ≡ under * g.extent.cols + x =
          ap (λ (m : ℕ). (under * m + begin) + k) on.wide ∙ omega (arith, from.before) in
          ap (λ (i : ℕ). get_or c.args.sheet.voids.now i false) along ∙ c.requires.whole under is x behind;
      within = omega (arith, within here c.if-first-end.true, c.requires.voids.0);
      few = omega (arith, (sizes here).0, c.requires.voids.0);
      room = omega (arith, c.reached-first.ensures.end, on.wide, c.requires.wide);
      short = omega (arith, (sizes here).1, c.requires.wide);
    }

pub returns-then-first-end-clause-sums : goal.returns-then-first-end-clause-sums
returns-then-first-end-clause-sums c =
    let on = is-on (goal.at.returns-then-first-end-clause-sums c).After-reached-first in
    let g = c.args.array.now in
    let w = c.args.mask.now in
    let n = c.args.number in
    let begin = ((c.args.row + n / c.mask.inside.cols) - c.mask.inside.rows / 2) * c.shape.inside.cols
    + ((c.reached-first.result.0 + n % c.mask.inside.cols) - c.mask.inside.cols / 2) in
    let fits : FitsSigned w32 c.weight_of-weight.result = search rules in
    let told : to_z w32 (of_z w32 c.weight_of-weight.result) ≡ (tap_at w n).weight =
    to_z-of_z w32 c.weight_of-weight.result fits ∙ c.weight_of-weight.ensures in
    swept g w c.args.row n c.args.limits.number c.args.limits.weight c.reached-first.result.0 c.reached-first.result.1
    begin c.args.sheet.numbers.now c.args.sums.now c.add_times.new.sums c.args.sheet.voids.now c.args.marks.now
    c.mark_where.new.marks on.right on.kernel c.requires.number c.requires.row on.starts on.ends
    (λ low. rw (on.cols, on.rows, on.wide) refl) on.top on.bottom on.some (c.requires.weights n c.requires.number)
    c.requires.smooth c.requires.numbers c.requires.voids on.size c.requires.sums
    (record {
      added = λ k low.
          c.add_times.ensures.added k low
          ∙ ap (λ (z : ℤ). get_or c.args.sums.now (c.reached-first.result.0 + k) (pos 0)
          +ℤ z *ℤ get_or c.args.sheet.numbers.now (begin + k) (pos 0)) told;
      before = c.add_times.ensures.before;
      behind = λ k past. c.add_times.ensures.behind k (omega (arith, past, c.if-first-end.true));
      marked = c.mark_where.ensures.added;
      unmarked = c.mark_where.ensures.before;
      unmarked_behind = λ k past. c.mark_where.ensures.behind k (omega (arith, past, c.if-first-end.true));
    })

pub returns-else-first-end-clause-sums : goal.returns-else-first-end-clause-sums
returns-else-first-end-clause-sums c =
    let on = is-on (goal.at.returns-else-first-end-clause-sums c).After-reached-first in
    let n = c.args.number in
    swept c.args.array.now c.args.mask.now c.args.row n c.args.limits.number c.args.limits.weight
    c.reached-first.result.0 c.reached-first.result.1 0 c.args.sheet.numbers.now c.args.sums.now c.args.sums.now
    c.args.sheet.voids.now c.args.marks.now c.args.marks.now on.right on.kernel c.requires.number c.requires.row
    on.starts on.ends
    (λ low. absurd (omega (arith, low, c.if-first-end.false))) on.top on.bottom on.some
    (c.requires.weights n c.requires.number) c.requires.smooth c.requires.numbers c.requires.voids on.size
    c.requires.sums
    (record {
      added = λ k low. absurd (omega (arith, low, c.if-first-end.false));
      before = λ k low. refl;
      behind = λ k past. refl;
      marked = λ k low. absurd (omega (arith, low, c.if-first-end.false));
      unmarked = λ k low. refl;
      unmarked_behind = λ k past. refl;
    })

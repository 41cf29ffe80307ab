-- To which cell a tap leads, and what the first of them add.
--
-- The key idea: a tap leads from a row to one row or to none, and the same of columns. So it leads from a cell to the
-- cell of one place, and all taps lead to just the cells under the kernel.
use Rattle.std.proofs.Common.{◌≡◌, ℕ, ◌+◌, ◌-◌, ◌*◌, ◌/◌, ◌%◌, ◌<◌, ◌≤◌, Bool, true, false}
use Rattle.std.proofs.Common.{◌&&◌, ◌||◌, ◌==◌, nat_le, Option, Some, None, List, [], ◌++◌, map}
use Rattle.std.proofs.Common.{refl, sym, ap, ap₂, subst, ◌∙◌, arith, inl, inr}
use Rattle.std.specs.Prelude.{not, IfSome, All}
use Rattle.std.specs.Option.{option_to_list}
use Rattle.std.specs.List.{list_any, range_with_len}
use Rattle.std.proofs.Math.Bool.{or-false, or-true}
use Rattle.std.proofs.lemmas.Bool.{cases_Bool}
use Rattle.std.proofs.lemmas.Bool.Decides.{nat_tests}
use Rattle.std.proofs.lemmas.List.Folds.{list_any-append}
use Rattle.std.proofs.lemmas.List.Elements.{All-nil, All-cons, All-append}
use Rattle.sz_cells.specs.declared.Cell.{Cell}
use Rattle.sz_cells.specs.Extent.{Extent, holds, layer_of, row_in}
use Rattle.sz_cells.specs.Cells.{Cells, is_same, cells_where, any_cell, has, named_in, with_those}
use Rattle.sz_cells.proofs.Sets.{cells_where-ext, is_same-flip}
use Rattle.sz_cells.proofs.Windows.{range-append}
use Rattle.sz_spec.specs.declared.modes.Dir.{Dir}
use Rattle.sz_spec.specs.declared.modes.Dir.TheVariants.{Back, Forward}
use Rattle.sz_spec.specs.Weights.{Weights, Tap, is_zero, tap_at}
use Rattle.sz_spec.specs.Operators.Convolve.{is_under, is_convolved}
use Rattle.sz_frame.specs.Single.{is_cell, IsOnly}
use Rattle.sz_frame.specs.Walks.{steps}
use Rattle.sz_frame.proofs.Added.{any-filter, with-none, with-ext, with-more}
use Rattle.sz_frame.proofs.OneCell.{any-only}
use Rattle.sz_frame.proofs.Passing.{any-map, eq-flip, met-ext, met-or}
use Rattle.sz_frame.proofs.Places.{is_at, only-by}
use Rattle.sz_ops_window.specs.Taps.{leads, led_before, is_covered, less, moved}

-- ---- one axis

-- a row or column y is the one to which a tap leads
abbrev pub is_moved : Dir → ℕ → ℕ → ℕ → ℕ → Bool
is_moved Back start tap middle y = y + middle == start + tap
is_moved Forward start tap middle y = start + middle == y + tap

less-some : (a b r : ℕ) → less a b ≡ Some r → (b ≤ a) × (r ≡ a - b)
less-some a b r is =
    elim (cases_Bool (nat_le b a)) [
      | inl t ↦ let told : Some (a - b) ≡ Some r = rw t at is in (grind (arith, nat_tests, t), cc)
      | inr f ↦ let never : None ≡ Some r = rw f at is in absurd (cc)
    ]

moved-some : (dir : Dir) (start tap middle r y : ℕ) → moved dir start tap middle ≡ Some r
    → is_moved dir start tap middle y ≡ (y == r)
moved-some Back start tap middle r y is =
    let w = less-some (start + tap) middle r is in grind (arith, nat_tests, w.0, w.1)
moved-some Forward start tap middle r y is =
    let w = less-some (start + middle) tap r is in grind (arith, nat_tests, w.0, w.1)

-- ---- one tap

-- by layer, row and column
by-axes : (dir : Dir) (e : Extent) (w : Weights) (c : Cell) (n : ℕ) (x : Cell)
    → leads dir e w c n x ≡ (not (is_zero (tap_at w n).weight)
    && ((layer_of e x == layer_of e c) && is_moved dir (row_in e c) (n / w.cols) (w.rows / 2) (row_in e x)
    && is_moved dir c.col (n % w.cols) (w.cols / 2) x.col))
by-axes Back e w c n x = refl
by-axes Forward e w c n x =
    ap (λ b. not (is_zero (tap_at w n).weight) && (b && (row_in e c + w.rows / 2 == row_in e x + n / w.cols)
    && (c.col + w.cols / 2 == x.col + n % w.cols))) (eq-flip (layer_of e c) (layer_of e x))

-- whether a weight is used
pub used-some : (w : Weights) (n : ℕ) (b : Bool) → b ≡ not (is_zero (tap_at w n).weight) → b ≡ true
    → is_zero (tap_at w n).weight ≡ false
used-some w n b is some =
    elim (cases_Bool (is_zero (tap_at w n).weight)) [ inr f ↦ f | inl t ↦ let no = rw t at is in absurd (cc) ]

-- any other leads to the cell at a place
pub leads-at : (dir : Dir) (e : Extent) (w : Weights) (c : Cell) (n row col : ℕ) (cell : Option Cell)
    → is_zero (tap_at w n).weight ≡ false → moved dir (row_in e c) (n / w.cols) (w.rows / 2) ≡ Some row
    → moved dir c.col (n % w.cols) (w.cols / 2) ≡ Some col → IsOnly e (is_at e (layer_of e c) row col) cell
    → IsOnly e (leads dir e w c n) cell
leads-at dir e w c n row col cell some is_row is_col only =
    only-by e (is_at e (layer_of e c) row col) (leads dir e w c n) cell
    (λ x held.
    by-axes dir e w c n x
    ∙ (rw (
      some,
      moved-some dir (row_in e c) (n / w.cols) (w.rows / 2) row (row_in e x) is_row,
      moved-some dir c.col (n % w.cols) (w.cols / 2) col x.col is_col,
    ) refl))
    only

-- ---- all taps

convolved-covered : (e : Extent) (w : Weights) (o x : Cell)
    → is_convolved e w o x ≡ list_any (λ k. is_covered e w k o x) (range_with_len 0 (w.rows * w.cols))
convolved-covered e w o x =
    any-filter (λ (t : Tap). not (is_zero t.weight)) (is_under e w o x)
    (map (tap_at w) (range_with_len 0 (w.rows * w.cols)))
    ∙ any-map (λ t. not (is_zero t.weight) && is_under e w o x t) (tap_at w) (range_with_len 0 (w.rows * w.cols))

-- all taps lead to just the cells that the kernel relates
pub led-all : (dir : Dir) (e : Extent) (w : Weights) (c x : Cell)
    → led_before dir e w c (w.rows * w.cols) x ≡ steps dir (is_convolved e w) c x
led-all Back e w c x = sym (convolved-covered e w c x)
led-all Forward e w c x = sym (convolved-covered e w x c)

-- one tap more
pub led-more : (dir : Dir) (e : Extent) (w : Weights) (c : Cell) (n : ℕ) (x : Cell)
    → (led_before dir e w c n x || leads dir e w c n x) ≡ led_before dir e w c (n + 1) x
led-more dir e w c n x =
    sym
    (ap (list_any (λ k. leads dir e w c k x)) (range-append n 0 1)
    ∙ list_any-append (λ k. leads dir e w c k x) (range_with_len 0 n) (range_with_len (0 + n) 1)
    ∙ ap (λ b. led_before dir e w c n x || b)
    (or-false (leads dir e w c (0 + n) x) ∙ ap (λ (m : ℕ). leads dir e w c m x) (omega arith)))

-- the taps up to one number, and those from it on
led-parts : (dir : Dir) (e : Extent) (w : Weights) (c : Cell) (m n : ℕ) (x : Cell)
    → led_before dir e w c (m + n) x
    ≡ (led_before dir e w c m x || list_any (λ k. leads dir e w c k x) (range_with_len (0 + m) n))
led-parts dir e w c m n x =
    ap (list_any (λ k. leads dir e w c k x)) (range-append m 0 n)
    ∙ list_any-append (λ k. leads dir e w c k x) (range_with_len 0 m) (range_with_len (0 + m) n)

-- ---- a set that is added to

-- no tap adds nothing
pub led-start : (to : Cells) (dir : Dir) (e : Extent) (w : Weights) (c : Cell)
    → to ≡ cells_where to.extent (has to) → to ≡ with_those to (led_before dir e w c 0)
led-start to dir e w c own = with-none to (led_before dir e w c 0) own (λ x held. refl)

-- one tap more
pub led-step : (to so_far new : Cells) (dir : Dir) (e : Extent) (w : Weights) (c : Cell) (n : ℕ) (cell : Option Cell)
    → to.extent ≡ e → so_far ≡ with_those to (led_before dir e w c n) → IsOnly e (leads dir e w c n) cell
    → new ≡ with_those so_far (is_cell cell) → new ≡ with_those to (led_before dir e w c (n + 1))
led-step to so_far new dir e w c n cell same is only more =
    more
    ∙ (rw is (with-more to (led_before dir e w c n) (is_cell cell) (led_before dir e w c (n + 1))
    (λ x held. ap (λ b. led_before dir e w c n x || b) (sym (only x (rw (← same) held))) ∙ led-more dir e w c n x)))

-- after the last tap
pub led-end : (to new : Cells) (dir : Dir) (e : Extent) (w : Weights) (c : Cell) (n : ℕ)
    → n ≡ w.rows * w.cols → new ≡ with_those to (led_before dir e w c n)
    → new ≡ with_those to (steps dir (is_convolved e w) c)
led-end to new dir e w c n all is =
    is ∙ (rw all (with-ext to (led_before dir e w c (w.rows * w.cols)) (steps dir (is_convolved e w) c)
    (λ x held. led-all dir e w c x)))

-- ---- a set that is looked at

-- the first taps, and one more
meets-more : (from : Cells) (e : Extent) (w : Weights) (c : Cell) (n : ℕ) (cell : Option Cell)
    → from ≡ cells_where e (has from) → IsOnly e (leads Back e w c n) cell
    → any_cell (led_before Back e w c (n + 1)) from
    ≡ (any_cell (led_before Back e w c n) from || any_cell (is_cell cell) from)
meets-more from e w c n cell own only =
    sym (met-or from (led_before Back e w c n) (leads Back e w c n) (led_before Back e w c (n + 1))
    (led-more Back e w c n))
    ∙ ap (λ b. any_cell (led_before Back e w c n) from || b) (sym (any-only from e (leads Back e w c n) cell own only))

-- where none was met, and this one is not
pub meets-step : (from : Cells) (e : Extent) (w : Weights) (c : Cell) (n : ℕ) (cell : Option Cell)
    → from ≡ cells_where e (has from) → IsOnly e (leads Back e w c n) cell
    → any_cell (led_before Back e w c n) from ≡ false → any_cell (is_cell cell) from ≡ false
    → any_cell (led_before Back e w c (n + 1)) from ≡ false
meets-step from e w c n cell own only none this = meets-more from e w c n cell own only ∙ (rw (none, this) refl)

-- all taps
meets-all : (from : Cells) (e : Extent) (w : Weights) (c : Cell)
    → any_cell (led_before Back e w c (w.rows * w.cols)) from ≡ any_cell (is_convolved e w c) from
meets-all from e w c = met-ext from (led_before Back e w c (w.rows * w.cols)) (is_convolved e w c) (led-all Back e w c)

pub meets-none : (from : Cells) (e : Extent) (w : Weights) (c : Cell) (n : ℕ) → n ≡ w.rows * w.cols
    → any_cell (led_before Back e w c n) from ≡ false → false ≡ any_cell (is_convolved e w c) from
meets-none from e w c n all none =
    sym (sym (meets-all from e w c) ∙ ap (λ (m : ℕ). any_cell (led_before Back e w c m) from) (sym all) ∙ none)

-- one that is met settles it
pub meets-some : (from : Cells) (e : Extent) (w : Weights) (c : Cell) (n : ℕ) (cell : Option Cell)
    → from ≡ cells_where e (has from) → IsOnly e (leads Back e w c n) cell → n < w.rows * w.cols
    → any_cell (is_cell cell) from ≡ true → true ≡ any_cell (is_convolved e w c) from
meets-some from e w c n cell own only low this =
    let all = w.rows * w.cols in
    let rest = all - (n + 1) in
    let parts : all ≡ (n + 1) + rest = omega arith in
    let here = meets-more from e w c n cell own only
    ∙ ap (λ b. any_cell (led_before Back e w c n) from || b) this ∙ or-true (any_cell (led_before Back e w c n) from) in
    sym
    (sym (meets-all from e w c)
    ∙ ap (λ (m : ℕ). any_cell (led_before Back e w c m) from) parts
    ∙ sym (met-or from (led_before Back e w c (n + 1))
    (λ x. list_any (λ k. leads Back e w c k x) (range_with_len (0 + (n + 1)) rest))
    (led_before Back e w c ((n + 1) + rest)) (λ x. sym (led-parts Back e w c (n + 1) rest x)))
    ∙ (rw here refl))

-- ---- a list of the cells

-- the cells of a list are just those to which the first taps lead
pub record Lists (e : Extent) (w : Weights) (c : Cell) (n : ℕ) (cells : List Cell) : Type 0 where
  pub held : All (λ x. holds e x ≡ true) cells
  pub led : (x : Cell) → holds e x ≡ true → list_any (is_same x) cells ≡ led_before Back e w c n x

any-one : (cell : Option Cell) (x : Cell) → list_any (is_same x) (option_to_list cell) ≡ is_cell cell x
any-one None x = refl
any-one (Some c) x = or-false (is_same x c) ∙ is_same-flip x c

one-held : (e : Extent) (cell : Option Cell) → IfSome cell (λ x. holds e x ≡ true)
    → All (λ x. holds e x ≡ true) (option_to_list cell)
one-held e None held = All-nil (λ x. holds e x ≡ true)
one-held e (Some c) held = All-cons (λ x. holds e x ≡ true) c [] held (All-nil (λ x. holds e x ≡ true))

pub lists-more : (e : Extent) (w : Weights) (c : Cell) (n : ℕ) (cells new : List Cell) (cell : Option Cell)
    → Lists e w c n cells → IfSome cell (λ x. holds e x ≡ true) → IsOnly e (leads Back e w c n) cell
    → new ≡ cells ++ option_to_list cell → Lists e w c (n + 1) new
lists-more e w c n cells new cell so_far held only is =
    subst (Lists e w c (n + 1)) (sym is)
    (record {
      held = All-append (λ x. holds e x ≡ true) cells (option_to_list cell) so_far.held (one-held e cell held);
      led = λ x inside.
          list_any-append (is_same x) cells (option_to_list cell)
          ∙ ap₂ (λ (a b : Bool). a || b) (so_far.led x inside) (any-one cell x ∙ sym (only x inside))
          ∙ led-more Back e w c n x;
    })

pub lists-all : (e : Extent) (w : Weights) (c : Cell) (n : ℕ) (cells : List Cell) → n ≡ w.rows * w.cols
    → Lists e w c n cells → named_in e cells ≡ cells_where e (is_convolved e w c)
lists-all e w c n cells all so_far =
    cells_where-ext e (λ x. list_any (is_same x) cells) (is_convolved e w c)
    (λ x held. so_far.led x held ∙ ap (λ (m : ℕ). led_before Back e w c m x) all ∙ led-all Back e w c x)

-- the list of no tap
pub lists-none : (e : Extent) (w : Weights) (c : Cell) (cells : List Cell) → cells ≡ [] → Lists e w c 0 cells
lists-none e w c cells none =
    subst (Lists e w c 0) (sym none)
    (record { held = All-nil (λ x. holds e x ≡ true); led = λ x held. refl })

-- how many taps a kernel has
pub tap-count : (v w : Weights) → v ≡ w → v.rows * v.cols ≡ w.rows * w.cols
tap-count v w same = ap (λ (u : Weights). u.rows * u.cols) same

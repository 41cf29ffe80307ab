-- The sum under a kernel, tap by tap.
--
-- The key idea: a tap that is not in range, or whose weight is 0, adds 0. So the sum over the taps in range is the sum
-- of what each number adds, and that goes by parts: row by row, and of a row only the columns that lie on cells.
use Rattle.std.proofs.Common.{◌≡◌, ℕ, zero, suc, ◌+◌, ◌-◌, ◌*◌, ◌/◌, ◌%◌, ◌^◌, ◌<◌, ◌≤◌, Bool, true, false}
use Rattle.std.proofs.Common.{◌&&◌, nat_le, nat_lt, Option, Some, None, List, [], ◌∷◌, ◌++◌, map, get_or}
use Rattle.std.proofs.Common.{refl, sym, ap, ap₂, ◌∙◌, arith, inl, inr, ◌⊎◌, lt-ltb, le-leb, leb-true}
use Rattle.std.specs.Prelude.{ℤ, pos, ◌==◌, ◌+ℤ◌, not, if◌then◌else◌, option_and_then}
use Rattle.std.specs.List.{range_with_len, filter}
use Rattle.std.proofs.Math.Nat.{mul-le-mul_right}
use Rattle.std.proofs.lemmas.Bool.{cases_Bool, and_from, and_parts}
use Rattle.std.proofs.lemmas.Bool.Decides.{nat_tests}
use Rattle.std.proofs.lemmas.Int.{ints}
use Rattle.std.proofs.lemmas.Nat.{div-mul-add, mod-mul-add, div-add-mod', div_below, mod_below, le-div}
use Rattle.std.proofs.lemmas.List.{map-append}
use Rattle.std.proofs.lemmas.Option.{unwrap_or-slice_get}
use Rattle.sz_cells.specs.declared.Cell.{Cell}
use Rattle.sz_cells.specs.Extent.{Extent, holds, is_extent, layer_of, row_in, height_of, index_of, size_of}
use Rattle.sz_cells.proofs.Shapes.{cell-has_place}
use Rattle.sz_cells.proofs.Windows.{range-append}
use Rattle.sz_spec.specs.Values.{Grid, value_at, fit, with_numbers}
use Rattle.sz_spec.specs.Weights.{Weights, Tap, is_zero, tap_at, is_kernel}
use Rattle.sz_spec.specs.Operators.Convolve.{is_in_range, term_of, sum_of_all, convolved_at, cell_under}
use Rattle.sz_frame.proofs.Places.{AreSmall, are-small, own-place}
use Rattle.sz_ops_window.specs.declared.window.Window.{Window}
use Rattle.sz_ops_window.specs.Sums.{times, part_of, sum_from, reach_of}

-- ---- sums by parts

abbrev pub plus : Option ℤ → Option ℤ → Option ℤ
plus a b = with_numbers (λ x y. Some (x +ℤ y)) a b

pub plus-zero : (a : Option ℤ) → plus (Some (pos 0)) a ≡ a
plus-zero None = refl
plus-zero (Some z) = ap (λ y. Some y) (omega (arith, ints))

pub zero-plus : (a : Option ℤ) → plus a (Some (pos 0)) ≡ a
zero-plus None = refl
zero-plus (Some z) = ap (λ y. Some y) (omega (arith, ints))

plus-assoc : (a b c : Option ℤ) → plus (plus a b) c ≡ plus a (plus b c)
plus-assoc None b c = refl
plus-assoc (Some x) None c = refl
plus-assoc (Some x) (Some y) None = refl
plus-assoc (Some x) (Some y) (Some z) = ap (λ s. Some s) (omega (arith, ints))

sum-append : (xs ys : List (Option ℤ)) → sum_of_all (xs ++ ys) ≡ plus (sum_of_all xs) (sum_of_all ys)
sum-append [] ys = sym (plus-zero (sum_of_all ys))
sum-append (x ∷ xs) ys = ap (plus x) (sum-append xs ys) ∙ sym (plus-assoc x (sum_of_all xs) (sum_of_all ys))

pub sum-parts : (g : Grid) (w : Weights) (o : Cell) (start m n : ℕ)
    → sum_from g w o start (m + n) ≡ plus (sum_from g w o start m) (sum_from g w o (start + m) n)
sum-parts g w o start m n =
    ap (λ ks. sum_of_all (map (part_of g w o) ks)) (range-append m start n)
    ∙ ap sum_of_all (map-append (part_of g w o) (range_with_len start m) (range_with_len (start + m) n))
    ∙ sum-append (map (part_of g w o) (range_with_len start m)) (map (part_of g w o) (range_with_len (start + m) n))

pub sum-one : (g : Grid) (w : Weights) (o : Cell) (n : ℕ) → sum_from g w o n 1 ≡ part_of g w o n
sum-one g w o n = zero-plus (part_of g w o n)

-- where nothing is added
sum-zero : (g : Grid) (w : Weights) (o : Cell) (n start : ℕ)
    → ((k : ℕ) → start ≤ k → k < start + n → part_of g w o k ≡ Some (pos 0))
    → sum_from g w o start n ≡ Some (pos 0)
sum-zero g w o zero start none = refl
sum-zero g w o (suc n) start none =
    ap₂ plus (none start (omega arith) (omega arith))
    (sum-zero g w o n (start + 1) (λ k low high. none k (omega arith) (omega arith)))

-- the sum over the taps in range
filtered : (p q : Tap → Bool) (f : Tap → Option ℤ) (h : ℕ → Tap) (ks : List ℕ)
    → sum_of_all (map f (filter q (filter p (map h ks))))
    ≡ sum_of_all (map (λ k. if p (h k) && q (h k) then f (h k) else Some (pos 0)) ks)
filtered p q f h [] = refl
filtered p q f h (k ∷ ks) =
    let rest = filtered p q f h ks in
    elim (cases_Bool (p (h k))) [
      | inr out ↦ rw out (rest ∙ sym (plus-zero _))
      | inl used ↦
          elim (cases_Bool (q (h k))) [
            | inl inside ↦ rw (used, inside) (ap (plus (f (h k))) rest)
            | inr outside ↦ rw (used, outside) (rest ∙ sym (plus-zero _))
          ]
    ]

pub convolved-sum : (w : Weights) (g : Grid) (o : Cell)
    → convolved_at w g o ≡ option_and_then fit (sum_from g w o 0 (w.rows * w.cols))
convolved-sum w g o =
    ap (option_and_then fit)
    (filtered (λ t. not (is_zero t.weight)) (is_in_range g.extent w o) (term_of g w o) (tap_at w)
    (range_with_len 0 (w.rows * w.cols)))

-- ---- taps in range

-- a tap of a row and a column of the kernel
tap-row : (w : Weights) (row col : ℕ) → col < w.cols → (tap_at w (row * w.cols + col)).row ≡ row
tap-row w row col low = div-mul-add row w.cols col low

tap-col : (w : Weights) (row col : ℕ) → col < w.cols → (tap_at w (row * w.cols + col)).col ≡ col
tap-col w row col low = mod-mul-add row w.cols col low

-- in range by rows and columns
by-sides : (e : Extent) (w : Weights) (o : Cell) (n row col : ℕ) → (tap_at w n).row ≡ row → (tap_at w n).col ≡ col
    → row < w.rows → col < w.cols
    → is_in_range e w o (tap_at w n)
    ≡ ((nat_le (reach_of e w o).top row && nat_lt row (reach_of e w o).bottom)
    && (nat_le (reach_of e w o).left col && nat_lt col (reach_of e w o).right))
by-sides e w o n row col is_row is_col tall wide = rw (is_row, is_col) (grind (arith, nat_tests))

-- what is out of reach adds nothing
part-out : (g : Grid) (w : Weights) (o : Cell) (n : ℕ) → is_in_range g.extent w o (tap_at w n) ≡ false
    → part_of g w o n ≡ Some (pos 0)
part-out g w o n out =
    elim (cases_Bool (is_zero (tap_at w n).weight)) [ inl t ↦ rw t refl | inr f ↦ rw (f, out) refl ]

tap-out : (g : Grid) (w : Weights) (o : Cell) (row col : ℕ) → row < w.rows → col < w.cols
    → ((nat_le (reach_of g.extent w o).top row && nat_lt row (reach_of g.extent w o).bottom)
    && (nat_le (reach_of g.extent w o).left col && nat_lt col (reach_of g.extent w o).right)) ≡ false
    → part_of g w o (row * w.cols + col) ≡ Some (pos 0)
tap-out g w o row col tall wide out =
    part-out g w o (row * w.cols + col)
    (by-sides g.extent w o (row * w.cols + col) row col (tap-row w row col wide) (tap-col w row col wide) tall wide
    ∙ out)

pub row-out : (g : Grid) (w : Weights) (o : Cell) (row col : ℕ) → row < w.rows → col < w.cols
    → ((row < (reach_of g.extent w o).top) ⊎ ((reach_of g.extent w o).bottom ≤ row))
    → part_of g w o (row * w.cols + col) ≡ Some (pos 0)
row-out g w o row col tall wide out = tap-out g w o row col tall wide
    (elim out [ inl above ↦ grind (arith, nat_tests, above) | inr below ↦ grind (arith, nat_tests, below) ])

pub col-out : (g : Grid) (w : Weights) (o : Cell) (row col : ℕ) → row < w.rows → col < w.cols
    → ((col < (reach_of g.extent w o).left) ⊎ ((reach_of g.extent w o).right ≤ col))
    → part_of g w o (row * w.cols + col) ≡ Some (pos 0)
col-out g w o row col tall wide out = tap-out g w o row col tall wide
    (elim out [ inl before ↦ grind (arith, nat_tests, before) | inr behind ↦ grind (arith, nat_tests, behind) ])

-- whole rows that are out of reach
-- a quotient is not below
div-above : (k d m : ℕ) → 0 < d → m * d ≤ k → m ≤ k / d
div-above k d m some low = le-div m k d some low

pub rows-out : (g : Grid) (w : Weights) (o : Cell) (first n : ℕ) → first + n ≤ w.rows
    → ((row : ℕ) → first ≤ row → row < first + n
    → (row < (reach_of g.extent w o).top) ⊎ ((reach_of g.extent w o).bottom ≤ row))
    → sum_from g w o (first * w.cols) (n * w.cols) ≡ Some (pos 0)
rows-out g w o first n within out =
    sum-zero g w o (n * w.cols) (first * w.cols)
    (λ k low high.
    let end : first * w.cols + n * w.cols ≡ (first + n) * w.cols = grind arith in
    let below : k < (first + n) * w.cols = omega (arith, high, end) in
    let some : 0 < w.cols = grind (arith, below) in
    let row = k / w.cols in
    let whole : row * w.cols + k % w.cols ≡ k = div-add-mod' k w.cols in
    let narrow : k % w.cols < w.cols = mod_below k w.cols some in
    let under : row < first + n = div_below k w.cols (first + n) some below in
    let above : first ≤ row = div-above k w.cols first some low in
    ap (part_of g w o) (sym whole)
    ∙ row-out g w o row (k % w.cols) (omega (arith, under, within)) narrow (out row above under))

-- columns of a row that are out of reach
pub cols-out : (g : Grid) (w : Weights) (o : Cell) (row first n : ℕ) → row < w.rows → first + n ≤ w.cols
    → ((col : ℕ) → first ≤ col → col < first + n
    → (col < (reach_of g.extent w o).left) ⊎ ((reach_of g.extent w o).right ≤ col))
    → sum_from g w o (row * w.cols + first) n ≡ Some (pos 0)
cols-out g w o row first n tall within out =
    sum-zero g w o n (row * w.cols + first)
    (λ k low high.
    let col = k - row * w.cols in
    let whole : row * w.cols + col ≡ k = omega arith in
    ap (part_of g w o) (sym whole)
    ∙ col-out g w o row col tall (omega (arith, whole, high, within)) (out col (omega arith) (omega arith)))

-- how the reach lies in the kernel
pub record IsReach (w : Weights) (r : Window) : Type 0 where
  pub rows : r.top ≤ r.bottom
  pub bottom : r.bottom ≤ w.rows
  pub cols : r.left ≤ r.right
  pub right : r.right ≤ w.cols

pub reach-lies : (e : Extent) (w : Weights) (o : Cell) → is_extent e ≡ true → holds e o ≡ true → is_kernel w ≡ true
    → IsReach w (reach_of e w o)
reach-lies e w o right held kernel =
    let here = own-place e o right held in
    record {
      rows = omega (arith, here.1);
      bottom = omega arith;
      cols = omega (arith, here.2);
      right = omega arith;
    }

-- a place is within its rows and columns
pub in-size : (row cols col rows : ℕ) → row < rows → col < cols → row * cols + col < rows * cols
in-size row cols col rows tall wide =
    let below : row + 1 ≤ rows = omega arith in
    let whole : (row + 1) * cols ≤ rows * cols = mul-le-mul_right cols below in
    omega (arith, whole)

-- a layer is within the rows
pub rows-within : (e : Extent) (o : Cell) → layer_of e o < e.layers → AreSmall e
    → layer_of e o * height_of e + height_of e ≤ e.rows
rows-within e o here small =
    let below : layer_of e o + 1 ≤ e.layers = omega (arith, here) in
    let whole : (layer_of e o + 1) * height_of e ≤ e.layers * height_of e = mul-le-mul_right (height_of e) below in
    omega (arith, whole, small.whole)

-- a kernel has at most nine rows and nine columns
pub kernel-sides : (w : Weights) → is_kernel w ≡ true → (w.rows ≤ 9) × (w.cols ≤ 9)
kernel-sides w h =
    let whole = and_parts _ _ h in
    let sides = and_parts _ _ whole.0 in
    let both = and_parts _ _ sides.0 in
    let tall = and_parts _ _ both.0 in
    let wide = and_parts _ _ both.1 in
    (leb-true _ _ tall.1, leb-true _ _ wide.1)

-- and at least one column
pub kernel-some : (w : Weights) → is_kernel w ≡ true → 0 < w.cols
kernel-some w h =
    let whole = and_parts _ _ h in
    let sides = and_parts _ _ whole.0 in
    let both = and_parts _ _ sides.0 in
    let odd : (w.cols % 2 == 1) ≡ true = (and_parts (w.cols % 2 == 1) (nat_le w.cols 9) both.1).0 in
    grind (arith, nat_tests, odd)

-- so a cell has at least one column of the kernel on a cell of its row
pub reach-some : (e : Extent) (w : Weights) (o : Cell) (reach : Window) → is_extent e ≡ true → holds e o ≡ true
    → is_kernel w ≡ true → reach ≡ reach_of e w o → reach.left < reach.right
reach-some e w o reach right held kernel is =
    let here = own-place e o right held in
    let some = kernel-some w kernel in
    let low : (reach_of e w o).left < (reach_of e w o).right = omega (arith, here.2, some) in
    rw is low

-- where the cell under a tap of the reach is
pub record IsUnder (e : Extent) (w : Weights) (o : Cell) (row col : ℕ) : Type 0 where
  pub above : w.rows / 2 ≤ o.row + row
  pub below : (o.row + row) - w.rows / 2 < e.rows
  pub before : w.cols / 2 ≤ o.col + col
  pub behind : (o.col + col) - w.cols / 2 < e.cols
  pub index : ((o.row + row) - w.rows / 2) * e.cols + ((o.col + col) - w.cols / 2)
      ≡ index_of e (cell_under e w o (tap_at w (row * w.cols + col)))
  pub size : ((o.row + row) - w.rows / 2) * e.cols + ((o.col + col) - w.cols / 2) < size_of e
  pub number : row * w.cols + col < w.rows * w.cols
  pub range : is_in_range e w o (tap_at w (row * w.cols + col)) ≡ true

pub is-under : (e : Extent) (w : Weights) (o : Cell) (row col : ℕ) → is_extent e ≡ true → holds e o ≡ true
    → (reach_of e w o).top ≤ row → row < (reach_of e w o).bottom → (reach_of e w o).left ≤ col
    → col < (reach_of e w o).right → IsUnder e w o row col
is-under e w o row col right held top bottom left end =
    let small = are-small e right in
    let whole : layer_of e o * height_of e + row_in e o ≡ o.row =
    ap (λ (x : Cell). x.row) (cell-has_place e o right held).1 in
    let tall : row < w.rows = omega (arith, bottom) in
    let wide : col < w.cols = omega (arith, end) in
    let r = tap-row w row col wide in
    let k = tap-col w row col wide in
    let moved : (o.row + row) - w.rows / 2 ≡ layer_of e o * height_of e + ((row_in e o + row) - w.rows / 2) =
    omega (arith, whole, top) in
    let layers : layer_of e o * height_of e + height_of e ≤ e.rows =
    rows-within e o (own-place e o right held).0 small in
    let below : (o.row + row) - w.rows / 2 < e.rows = omega (arith, moved, layers, bottom, top) in
    let behind : (o.col + col) - w.cols / 2 < e.cols = omega (arith, end, left) in
    record {
      above = omega (arith, whole, top);
      below = below;
      before = omega (arith, left);
      behind = behind;
      index =
          ap (λ (n : ℕ). n * e.cols + ((o.col + col) - w.cols / 2)) moved
          ∙ ap₂ (λ (x y : ℕ). (layer_of e o * height_of e + ((row_in e o + x) - w.rows / 2)) * e.cols
          + ((o.col + y) - w.cols / 2)) (sym r) (sym k);
      size = in-size ((o.row + row) - w.rows / 2) e.cols ((o.col + col) - w.cols / 2) e.rows below behind;
      number = in-size row w.cols col w.rows tall wide;
      range =
          by-sides e w o (row * w.cols + col) row col r k tall wide
          ∙ and_from _ _ (and_from _ _ (le-leb _ _ top) (lt-ltb _ _ bottom)) (and_from _ _ (le-leb _ _ left)
          (lt-ltb _ _ end));
    }

-- what a tap of the reach adds
pub part-in : (g : Grid) (w : Weights) (o : Cell) (row col : ℕ) → IsUnder g.extent w o row col
    → times (tap_at w (row * w.cols + col)).weight
    (get_or g.values (((o.row + row) - w.rows / 2) * g.extent.cols + ((o.col + col) - w.cols / 2)) None)
    ≡ part_of g w o (row * w.cols + col)
part-in g w o row col under =
    let n = row * w.cols + col in
    let read : get_or g.values (((o.row + row) - w.rows / 2) * g.extent.cols + ((o.col + col) - w.cols / 2)) None
    ≡ value_at g (cell_under g.extent w o (tap_at w n)) =
    ap (λ (i : ℕ). get_or g.values i None) under.index
    ∙ sym (unwrap_or-slice_get g.values (index_of g.extent (cell_under g.extent w o (tap_at w n))) None) in
    ap (times (tap_at w n).weight) read
    ∙ (elim (cases_Bool (is_zero (tap_at w n).weight)) [
      | inl none ↦ rw none refl
      | inr some ↦ rw (some, under.range) refl
    ])

-- the same of a reach that is given
pub under-reach : (e : Extent) (w : Weights) (o : Cell) (reach : Window) (row col : ℕ) → is_extent e ≡ true
    → holds e o ≡ true → reach ≡ reach_of e w o → reach.top ≤ row → row < reach.bottom → reach.left ≤ col
    → col < reach.right → IsUnder e w o row col
under-reach e w o reach row col right held is top bottom left end =
    is-under e w o row col right held (rw is at top) (rw is at bottom) (rw is at left) (rw is at end)

-- no number is large where the sides are `rows` and `cols` of the kernel and `wide` of the array
pub record AreFew (o : Cell) (row col rows cols wide size : ℕ) : Type 0 where
  pub down : o.row + row < 2 ^ 32
  pub across : o.col + col < 2 ^ 32
  pub up : rows / 2 ≤ o.row + row
  pub before : cols / 2 ≤ o.col + col
  pub start : ((o.row + row) - rows / 2) * wide < 2 ^ 32
  pub index : ((o.row + row) - rows / 2) * wide + ((o.col + col) - cols / 2) < size
  pub small : size < 2 ^ 32
  pub first : row * cols < 2 ^ 32
  pub number : row * cols + col < 2 ^ 32

pub are-few : (e : Extent) (w : Weights) (o : Cell) (row col rows cols wide : ℕ) → is_extent e ≡ true
    → is_kernel w ≡ true → IsUnder e w o row col → rows ≡ w.rows → cols ≡ w.cols → wide ≡ e.cols
    → AreFew o row col rows cols wide (size_of e)
are-few e w o row col rows cols wide right kernel under same_rows same_cols same_wide =
    let small = are-small e right in
    let sides = kernel-sides w kernel in
    let count : w.rows * w.cols ≤ 9 * w.cols = mul-le-mul_right w.cols sides.0 in
    rw (same_rows, same_cols, same_wide)
    (record {
      down = omega (arith, under.below, under.above, small.rows, sides.0);
      across = omega (arith, under.behind, under.before, small.cols, sides.1);
      up = under.above;
      before = under.before;
      start = omega (arith, under.size, small.size);
      index = under.size;
      small = omega (arith, small.size);
      first = omega (arith, under.number, count, sides.1);
      number = omega (arith, under.number, count, sides.1);
    })

-- what a tap of the reach adds, as it is read
pub part-read : (g : Grid) (w : Weights) (o : Cell) (row col : ℕ) (weight : ℤ) (value : Option ℤ)
    → IsUnder g.extent w o row col → weight ≡ (tap_at w (row * w.cols + col)).weight
    → value ≡ get_or g.values (((o.row + row) - w.rows / 2) * g.extent.cols + ((o.col + col) - w.cols / 2)) None
    → times weight value ≡ part_of g w o (row * w.cols + col)
part-read g w o row col weight value under is at = rw (is, at) (part-in g w o row col under)

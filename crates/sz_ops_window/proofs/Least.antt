-- The least number round a hot cell.
--
-- The key idea: the least of a list is a fold, and a fold over the cells of a window, in the order of their indexes, is
-- a fold over its rows of folds over its columns.
use Rattle.std.proofs.Common.{◌≡◌, ℕ, ◌+◌, ◌-◌, ◌*◌, ◌<◌, ◌≤◌, min, max, Bool, true, cond}
use Rattle.std.proofs.Common.{Option, Some, None, List, [], ◌∷◌, fold, get_or}
use Rattle.std.proofs.Common.{refl, sym, ap, ap₂, ◌∙◌, arith, inl, inr, lt-ltb, le-leb}
use Rattle.std.specs.Prelude.{ℤ, int_le, not}
use Rattle.std.specs.Int.{int_min}
use Rattle.std.specs.List.{range_with_len, filter, filter_map, reduce, cons_option}
use Rattle.std.proofs.lemmas.Bool.{cases_Bool, and_from}
use Rattle.std.proofs.lemmas.Bool.Decides.{nat_tests}
use Rattle.std.proofs.lemmas.List.Sums.{fold-append}
use Rattle.std.proofs.lemmas.Option.{unwrap_or-slice_get}
use Rattle.sz_cells.specs.declared.Cell.{Cell}
use Rattle.sz_cells.specs.Extent.{Extent, holds, is_extent, layer_of, height_of, cell_of}
use Rattle.sz_cells.specs.Cells.{Cells, cells_where}
use Rattle.sz_cells.proofs.Shapes.{sides}
use Rattle.sz_cells.proofs.Sets.{cells_where-ext, row-held}
use Rattle.sz_cells.proofs.Windows.{range-append, fold-range_ext, window-fold, window-within}
use Rattle.sz_spec.specs.Values.{Grid, value_at}
use Rattle.sz_spec.specs.Operators.Clean.{is_hot, is_in_square, cleaned_at}
use Rattle.sz_spec.proofs.CodeSquare.{layer-rows}
use Rattle.sz_ops_window.specs.declared.window.Window.{Window}
use Rattle.sz_ops_window.specs.Least.{is_in_window, with_value, with_row, with_rows}

-- ---- the square

-- the rows and columns at most 1 from a cell, as far as its layer goes
abbrev pub square_window : Extent → Cell → Window
square_window e c = record {
  top = max (layer_of e c * height_of e) (c.row - 1);
  bottom = min (layer_of e c * height_of e + height_of e) (c.row + 2);
  left = c.col - 1;
  right = min e.cols (c.col + 2);
}

pub square-is_window : (e : Extent) (c x : Cell) → is_extent e ≡ true → holds e c ≡ true → holds e x ≡ true
    → is_in_window (square_window e c) x ≡ is_in_square e c x
square-is_window e c x right held other =
    let s = sides e right in
    let inside = row-held e x other in
    rw (layer-rows x.row (height_of e) (layer_of e c) s.1) (grind (arith, nat_tests))

-- ---- the least of a list, number by number

-- a number that is not hot
abbrev is_low : ℤ → ℤ → Bool
is_low t z = not (int_le t z)

some-step : (t : ℤ) (v : Option ℤ) (a : ℤ) (ys : List ℤ) (rest : Option ℤ → Option ℤ)
    → ((b : ℤ) → rest (Some b) ≡ Some (fold int_min b (filter (is_low t) ys)))
    → rest (with_value t (Some a) v) ≡ Some (fold int_min a (filter (is_low t) (cons_option v ys)))
some-step t None a ys rest h = h a
some-step t (Some z) a ys rest h =
    elim (cases_Bool (int_le t z)) [
      | inl hot ↦ rw hot (h a)
      | inr low ↦ rw low (h (int_min a z))
    ]

some-least : (t : ℤ) (v : ℕ → Option ℤ) (a : ℤ) (ks : List ℕ) → fold (λ b k. with_value t b (v k)) (Some a) ks
    ≡ Some (fold int_min a (filter (is_low t) (filter_map v ks)))
some-least t v a [] = refl
some-least t v a (k ∷ ks) =
    some-step t (v k) a (filter_map v ks) (λ b. fold (λ x n. with_value t x (v n)) b ks)
    (λ b. some-least t v b ks)

none-step : (t : ℤ) (v : Option ℤ) (ys : List ℤ) (rest : Option ℤ → Option ℤ)
    → ((b : ℤ) → rest (Some b) ≡ Some (fold int_min b (filter (is_low t) ys)))
    → rest None ≡ reduce int_min (filter (is_low t) ys)
    → rest (with_value t None v) ≡ reduce int_min (filter (is_low t) (cons_option v ys))
none-step t None ys rest h none = none
none-step t (Some z) ys rest h none =
    elim (cases_Bool (int_le t z)) [
      | inl hot ↦ rw hot none
      | inr low ↦ rw low (h z)
    ]

least-fold : (t : ℤ) (v : ℕ → Option ℤ) (ks : List ℕ) → fold (λ b k. with_value t b (v k)) None ks
    ≡ reduce int_min (filter (is_low t) (filter_map v ks))
least-fold t v [] = refl
least-fold t v (k ∷ ks) =
    none-step t (v k) (filter_map v ks) (λ b. fold (λ x n. with_value t x (v n)) b ks)
    (λ b. some-least t v b ks) (least-fold t v ks)

-- ---- the least in a window

within : (w : Window) (r c : ℕ) → w.top ≤ r → r < w.bottom → w.left ≤ c → c < w.right
    → is_in_window w (record { row = r; col = c }) ≡ true
within w r c top bottom left right =
    and_from _ _ (and_from _ _ (le-leb w.top r top) (lt-ltb r w.bottom bottom))
    (and_from _ _ (le-leb w.left c left) (lt-ltb c w.right right))

-- the fold over the cells of the window is that over its rows and columns
rows-fold : (t : ℤ) (g : Grid) (w : Window) → w.top ≤ w.bottom → w.bottom ≤ g.extent.rows → w.left ≤ w.right
    → w.right ≤ g.extent.cols
    → fold (λ b k. with_value t b (value_at g (cell_of g.extent k))) None
    (cells_where g.extent (is_in_window w)).indexes
    ≡ with_rows t g w.top w.bottom w.left w.right None
rows-fold t g w tall high order wide =
    let make : ℕ → ℕ → Cell = λ x y. record { row = x; col = y } in
    let step : Option ℤ → Cell → Option ℤ = λ b c. with_value t b (value_at g c) in
    let tested : ℕ → Option ℤ → ℕ → Option ℤ =
    λ r x c. cond (is_in_window w (make r c)) (step x (make r c)) x in
    window-fold step None g.extent (is_in_window w) w.top w.bottom w.left w.right tall high order wide
    (window-within w.top w.bottom w.left w.right)
    ∙ fold-range_ext (λ b r. fold (tested r) b (range_with_len w.left (w.right - w.left)))
    (λ b r. with_row t g w.left w.right r b) (w.bottom - w.top) w.top
    (λ b r top bottom.
    fold-range_ext (tested r) (λ x c. step x (make r c)) (w.right - w.left) w.left
    (λ x c left right. let inside = within w r c top (omega arith) left (omega arith) in rw inside refl) b)
    None

pub cleaned-hot : (t : ℤ) (g : Grid) (o : Cell) (w : Window) → w.top ≤ w.bottom → w.bottom ≤ g.extent.rows
    → w.left ≤ w.right → w.right ≤ g.extent.cols
    → ((x : Cell) → holds g.extent x ≡ true → is_in_window w x ≡ is_in_square g.extent o x)
    → is_hot t g o ≡ true → with_rows t g w.top w.bottom w.left w.right None ≡ cleaned_at t g o
cleaned-hot t g o w tall high order wide same hot =
    sym
    ((rw hot refl)
    ∙ sym (least-fold t (λ k. value_at g (cell_of g.extent k)) (cells_where g.extent (is_in_square g.extent o)).indexes)
    ∙ ap (λ (s : Cells). fold (λ b k. with_value t b (value_at g (cell_of g.extent k))) None s.indexes)
    (sym (cells_where-ext g.extent (is_in_window w) (is_in_square g.extent o) same))
    ∙ rows-fold t g w tall high order wide)

-- ---- one more

fold-first : {B : Type 0} (f : B → ℕ → B) (a : B) (start : ℕ) → fold f a (range_with_len start (start - start)) ≡ a
fold-first f a start = let none : start - start ≡ 0 = omega arith in rw none refl

fold-next : {B : Type 0} (f : B → ℕ → B) (a : B) (start k : ℕ) → start ≤ k
    → fold f a (range_with_len start ((k + 1) - start)) ≡ f (fold f a (range_with_len start (k - start))) k
fold-next f a start k low =
    let more : (k + 1) - start ≡ (k - start) + 1 = omega arith in
    let at : start + (k - start) ≡ k = omega arith in
    ap (λ (n : ℕ). fold f a (range_with_len start n)) more
    ∙ ap (fold f a) (range-append (k - start) start 1)
    ∙ fold-append f a (range_with_len start (k - start)) (range_with_len (start + (k - start)) 1)
    ∙ ap (f (fold f a (range_with_len start (k - start)))) at

-- one column more
pub row-next : (t : ℤ) (g : Grid) (left col row : ℕ) (least so_far new : Option ℤ) → left ≤ col
    → so_far ≡ with_row t g left col row least
    → new ≡ with_value t so_far (value_at g (record { row = row; col = col }))
    → new ≡ with_row t g left (col + 1) row least
row-next t g left col row least so_far new low is more =
    more
    ∙ ap (λ b. with_value t b (value_at g (record { row = row; col = col }))) is
    ∙ sym (fold-next (λ b c. with_value t b (value_at g (record { row = row; col = c }))) least left col low)

-- no row yet, and one row more
pub rows-first : (t : ℤ) (g : Grid) (top left right : ℕ) (least : Option ℤ)
    → least ≡ with_rows t g top top left right least
rows-first t g top left right least = sym (fold-first (λ b r. with_row t g left right r b) least top)

pub rows-next : (t : ℤ) (g : Grid) (top row left right : ℕ) (least so_far new : Option ℤ) → top ≤ row
    → so_far ≡ with_rows t g top row left right least → new ≡ with_row t g left right row so_far
    → new ≡ with_rows t g top (row + 1) left right least
rows-next t g top row left right least so_far new low is more =
    more
    ∙ ap (with_row t g left right row) is
    ∙ sym (fold-next (λ b r. with_row t g left right r b) least top row low)

-- the value at a cell, as it is read from the values in row-major order
pub value-read : (g : Grid) (cells : List (Option ℤ)) (cols row col : ℕ) → cells ≡ g.values → cols ≡ g.extent.cols
    → get_or cells (row * cols + col) None ≡ value_at g (record { row = row; col = col })
value-read g cells cols row col values same =
    ap₂ (λ (xs : List (Option ℤ)) (n : ℕ). get_or xs (row * n + col) None) values same
    ∙ sym (unwrap_or-slice_get g.values (row * g.extent.cols + col) None)

-- Sets of cells in a window of a shape: some rows, and in each of them some columns.
--
-- The key idea: the indexes of a shape are the rows one after another, each with the columns one after another. Where
-- no
-- cell outside of the window passes, a filter of all indexes keeps none of the other rows and columns.
use Rattle.std.proofs.Common.{◌≡◌, ℕ, zero, suc, ◌+◌, ◌-◌, ◌*◌, ◌/◌, ◌%◌, ◌<◌}
use Rattle.std.proofs.Common.{◌≤◌, Bool, true, false, cond, ◌&&◌, ◌||◌, ◌==◌, nat_lt, nat_le, List}
use Rattle.std.proofs.Common.{[], ◌∷◌, ◌++◌, map, fold, refl, sym, ap, ap₂, ◌∙◌, arith, inl}
use Rattle.std.proofs.Common.{inr, ◌⊎◌, ltb-true, lt-ltb, le-leb, leb-true}
use Rattle.std.proofs.Common.{append-nil}
use Rattle.std.specs.List.{filter, list_any, range_with_len, flat_map}
use Rattle.std.proofs.Math.Bool.{or-false}
use Rattle.std.proofs.lemmas.Bool.{cases_Bool, and_parts, and_from, false_from_ne_true}
use Rattle.std.proofs.lemmas.Bool.Decides.{nat_tests}
use Rattle.std.proofs.lemmas.Nat.{div-mul-add, mod-mul-add, div-add-mod'}
use Rattle.std.proofs.lemmas.List.Concat.{flat_map-append}
use Rattle.std.proofs.lemmas.List.Elements.{filter-append}
use Rattle.std.proofs.lemmas.List.Sums.{fold-append}
use Rattle.std.proofs.lemmas.List.Folds.{fold-map}
use Rattle.sz_cells.specs.declared.Cell.{Cell}
use Rattle.sz_cells.specs.declared.Run.{Run}
use Rattle.sz_cells.specs.Extent.{Extent, size_of, holds, index_of, cell_of}
use Rattle.sz_cells.specs.Cells.{Cells, is_same, has, cells_where, union_of}
use Rattle.sz_cells.specs.Runs.{is_in, run_cells}
use Rattle.sz_cells.proofs.Sets.{filter-range_ext, index-below}
use Rattle.sz_cells.proofs.Sets.{has-cells_where, cells_where-ext, same_truth, is_same-flip, index-is_same}
use Rattle.sz_cells.proofs.Rising.{filter-false, rising-filter}
use Rattle.sz_cells.proofs.Bitmaps.{run_cells-at, cells_at-ext, union-step}

-- ---- lists

-- a range in two parts
pub range-append : (m a n : ℕ) → range_with_len a (m + n) ≡ range_with_len a m ++ range_with_len (a + m) n
range-append zero a n = let none : zero + n ≡ n = omega arith in let here : a + zero ≡ a = omega arith in
    rw (none, here) refl
range-append (suc m) a n =
    let long : suc m + n ≡ suc (m + n) = omega arith in
    let next : a + suc m ≡ (a + 1) + m = omega arith in
    rw (long, next) (ap (λ (xs : List ℕ). a ∷ xs) (range-append m (a + 1) n))

-- a filter of lists, one after the other
filter-flat_map : {X Y : Type 0} (p : Y → Bool) (f : X → List Y) (xs : List X) → filter p (flat_map f xs)
    ≡ flat_map (λ x. filter p (f x)) xs
filter-flat_map p f [] = refl
filter-flat_map p f (x ∷ xs) = filter-append p (f x) (flat_map f xs) ∙ ap (λ ys. filter p (f x) ++ ys)
    (filter-flat_map p f xs)

-- two functions that agree on a range give one list
flat_map-range_ext : {X : Type 0} (f g : ℕ → List X) (n a : ℕ) → ((r : ℕ) → a ≤ r → r < a + n
    → f r ≡ g r) → flat_map f (range_with_len a n) ≡ flat_map g (range_with_len a n)
flat_map-range_ext f g zero a same = refl
flat_map-range_ext f g (suc n) a same =
    ap₂ (λ xs ys. xs ++ ys) (same a (omega arith) (omega arith)) (flat_map-range_ext f g n (a + 1)
    (λ r low high. same r (omega arith) (omega arith)))

-- where nothing of a range gives an element, the whole gives none
flat_map-none : {X : Type 0} (f : ℕ → List X) (n a : ℕ) → ((r : ℕ) → a ≤ r → r < a + n → f r ≡ [])
    → flat_map f (range_with_len a n) ≡ []
flat_map-none f zero a none = refl
flat_map-none f (suc n) a none = rw (none a (omega arith) (omega arith))
    (flat_map-none f n (a + 1) (λ r low high. none r (omega arith) (omega arith)))

-- a range filtered by a test that nothing outside a part of it passes
filter-part : (p : ℕ → Bool) (a b n m : ℕ) → a ≤ b → b + m ≤ a + n
    → ((k : ℕ) → p k ≡ true → (b ≤ k) × (k < b + m)) → filter p (range_with_len a n)
    ≡ filter p (range_with_len b m)
filter-part p a b n m low high inside =
    let before : ℕ = b - a in
    let after : ℕ = a + n - (b + m) in
    let parts : n ≡ before + (m + after) = omega arith in
    let at : a + before ≡ b = omega arith in
    let none : (c l : ℕ) → ((k : ℕ) → c ≤ k → k < c + l → p k ≡ false)
    → filter p (range_with_len c l) ≡ [] =
    λ c l off. filter-range_ext p (λ _. false) c l off ∙ filter-false (range_with_len c l) in
    ap (λ (l : ℕ). filter p (range_with_len a l)) parts
    ∙ ap (filter p) (range-append before a (m + after)
    ∙ ap (λ (c : ℕ). range_with_len a before ++ range_with_len c (m + after)) at
    ∙ ap (λ (xs : List ℕ). range_with_len a before ++ xs) (range-append m b after))
    ∙ filter-append p (range_with_len a before) (range_with_len b m ++ range_with_len (b + m) after)
    ∙ ap₂ (λ (xs ys : List ℕ). xs ++ ys) (none a before (λ k start end. false_from_ne_true (p k)
    (λ passes. let w = inside k passes in omega (arith, w.0))))
    (filter-append p (range_with_len b m) (range_with_len (b + m) after)
    ∙ ap (λ (ys : List ℕ). filter p (range_with_len b m) ++ ys)
    (none (b + m) after (λ k start end. false_from_ne_true (p k) (λ passes. let w = inside k passes in
    omega (arith, w.1))))
    ∙ append-nil (filter p (range_with_len b m)))

-- the same of a range of lists
flat_map-part : {X : Type 0} (f : ℕ → List X) (a b n m : ℕ) → a ≤ b → b + m ≤ a + n
    → ((r : ℕ) → (r < b) ⊎ (b + m ≤ r) → f r ≡ [])
    → flat_map f (range_with_len a n) ≡ flat_map f (range_with_len b m)
flat_map-part f a b n m low high outside =
    let before : ℕ = b - a in
    let after : ℕ = a + n - (b + m) in
    let parts : n ≡ before + (m + after) = omega arith in
    let at : a + before ≡ b = omega arith in
    ap (λ (l : ℕ). flat_map f (range_with_len a l)) parts
    ∙ ap (flat_map f) (range-append before a (m + after)
    ∙ ap (λ (c : ℕ). range_with_len a before ++ range_with_len c (m + after)) at
    ∙ ap (λ (xs : List ℕ). range_with_len a before ++ xs) (range-append m b after))
    ∙ flat_map-append f (range_with_len a before) (range_with_len b m ++ range_with_len (b + m) after)
    ∙ ap₂ (λ xs ys. xs ++ ys) (flat_map-none f before a (λ r start end. outside r (inl (omega arith))))
    (flat_map-append f (range_with_len b m) (range_with_len (b + m) after)
    ∙ ap (λ ys. flat_map f (range_with_len b m) ++ ys) (flat_map-none f after (b + m)
    (λ r start end. outside r (inr start)))
    ∙ append-nil (flat_map f (range_with_len b m)))

-- ---- all indexes, row by row

-- the indexes of so many rows are those of each row
pub range-rows : (cols n top : ℕ) → range_with_len (top * cols) (n * cols)
    ≡ flat_map (λ r. range_with_len (r * cols) cols) (range_with_len top n)
range-rows cols zero top = let none : zero * cols ≡ zero = grind arith in rw none refl
range-rows cols (suc n) top =
    let long : suc n * cols ≡ cols + n * cols = grind arith in
    let next : top * cols + cols ≡ (top + 1) * cols = grind arith in
    rw long
    (range-append cols (top * cols) (n * cols)
    ∙ (rw next (ap (λ (xs : List ℕ). range_with_len (top * cols) cols ++ xs) (range-rows cols n (top + 1)))))

-- a row's indexes that pass, by their columns
row-filter : (test : ℕ → Bool) (base n a : ℕ) → filter test (range_with_len (base + a) n)
    ≡ map (λ c. base + c) (filter (λ c. test (base + c)) (range_with_len a n))
row-filter test base zero a = refl
row-filter test base (suc n) a =
    let next : base + a + 1 ≡ base + (a + 1) = omega arith in
    let rest = row-filter test base n (a + 1) in
    rw next (elim (cases_Bool (test (base + a))) [
      | inl t ↦ rw t (ap (λ (xs : List ℕ). (base + a) ∷ xs) rest)
      | inr f ↦ rw f rest
    ])

-- ---- a window

-- the cell is in these rows and columns: from the first of each to before the second
abbrev pub is_in_window : ℕ → ℕ → ℕ → ℕ → Cell → Bool
is_in_window top bottom left right c = (nat_le top c.row && nat_lt c.row bottom)
    && (nat_le left c.col && nat_lt c.col right)

-- a test that nothing outside of a window passes
abbrev pub IsWithinWindow : ℕ → ℕ → ℕ → ℕ → (Cell → Bool) → Type 0
IsWithinWindow top bottom left right test =
    (c : Cell) → test c ≡ true → (top ≤ c.row) × (c.row < bottom) × (left ≤ c.col) × (c.col < right)

-- the window itself is such a test
pub window-within : (top bottom left right : ℕ) → IsWithinWindow top bottom left right
    (is_in_window top bottom left right)
window-within top bottom left right c passes =
    let both = and_parts (nat_le top c.row && nat_lt c.row bottom) (nat_le left c.col && nat_lt c.col right) passes in
    let rows = and_parts (nat_le top c.row) (nat_lt c.row bottom) both.0 in
    let cols = and_parts (nat_le left c.col) (nat_lt c.col right) both.1 in
    (leb-true top c.row rows.0, ltb-true c.row bottom rows.1, leb-true left c.col cols.0, ltb-true c.col right cols.1)

-- the columns of a row of a window that pass
abbrev pub cols_where : (Cell → Bool) → ℕ → ℕ → ℕ → List ℕ
cols_where test left right row = filter (λ c. test (record { row = row; col = c }))
    (range_with_len left (right - left))

-- one row of all indexes, filtered
one-row : (e : Extent) (test : Cell → Bool) (r left right : ℕ) → left ≤ right → right ≤ e.cols
    → ((c : ℕ) → test (record { row = r; col = c }) ≡ true → (left ≤ c) × (c < right))
    → filter (λ k. test (cell_of e k)) (range_with_len (r * e.cols) e.cols) ≡ map (λ c. r * e.cols + c)
    (cols_where test left right r)
one-row e test r left right order wide within =
    let here : r * e.cols + 0 ≡ r * e.cols = omega arith in
    let make : ℕ → ℕ → Cell = λ x y. record { row = x; col = y } in
    let end : left + (right - left) ≡ right = omega arith in
    ap (λ (z : ℕ). filter (λ k. test (cell_of e k)) (range_with_len z e.cols)) (sym here)
    ∙ row-filter (λ k. test (cell_of e k)) (r * e.cols) e.cols 0
    ∙ ap (map (λ c. r * e.cols + c))
    (filter-range_ext (λ c. test (cell_of e (r * e.cols + c))) (λ c. test (make r c)) 0 e.cols
    (λ c low high. let inside : c < e.cols = omega arith in ap test (ap₂ make (div-mul-add r e.cols c inside)
    (mod-mul-add r e.cols c inside)))
    ∙ filter-part (λ c. test (make r c)) 0 left e.cols (right - left) (omega arith) (omega arith)
    (λ c passes. let w = within c passes in (w.0, omega (arith, w.1))))

-- the indexes of a shape that pass a test which nothing outside of a window passes are, row by row of the window, those
-- of its columns that pass
pub window-filter : (e : Extent) (test : Cell → Bool) (top bottom left right : ℕ) → top ≤ bottom
    → bottom ≤ e.rows → left ≤ right → right ≤ e.cols
    → IsWithinWindow top bottom left right test
    → filter (λ k. test (cell_of e k)) (range_with_len 0 (size_of e))
    ≡ flat_map (λ r. map (λ c. index_of e (record { row = r; col = c })) (cols_where test left right r))
    (range_with_len top (bottom - top))
window-filter e test top bottom left right tall high order wide within =
    let make : ℕ → ℕ → Cell = λ x y. record { row = x; col = y } in
    let none : 0 * e.cols ≡ 0 = grind arith in
    let of_row : ℕ → List ℕ = λ r. map (λ c. r * e.cols + c) (cols_where test left right r) in
    let rows = ap (λ (z : ℕ). range_with_len z (e.rows * e.cols)) (sym none) ∙ range-rows e.cols e.rows 0 in
    ap (filter (λ k. test (cell_of e k))) rows
    ∙ filter-flat_map (λ k. test (cell_of e k)) (λ r. range_with_len (r * e.cols) e.cols) (range_with_len 0 e.rows)
    ∙ flat_map-range_ext (λ r. filter (λ k. test (cell_of e k)) (range_with_len (r * e.cols) e.cols)) of_row e.rows
    0
    (λ r start end. one-row e test r left right order wide (λ c passes. let w = within (make r c) passes in
    (w.2, w.3)))
    ∙ flat_map-part of_row 0 top e.rows (bottom - top) (omega arith) (omega arith)
    (λ r out.
    ap (map (λ c. r * e.cols + c))
    (filter-range_ext (λ c. test (make r c)) (λ _. false) left (right - left)
    (λ c low end.
    false_from_ne_true (test (make r c))
    (λ passes. let w = within (make r c) passes in elim out [
      | inl above ↦ omega (arith, w.0)
      | inr below ↦
          omega (arith, w.1)
    ]))
    ∙ filter-false (range_with_len left (right - left))))

-- ---- folds

fold-ext : {A B : Type 0} (f g : B → A → B) → ((b : B) (x : A) → f b x ≡ g b x) → (a : B) (xs : List A)
    → fold f a xs ≡ fold g a xs
fold-ext f g same a [] = refl
fold-ext f g same a (x ∷ xs) = ap (λ b. fold f b xs) (same a x) ∙ fold-ext f g same (g a x) xs

-- two steps that agree on a range give one fold over it
pub fold-range_ext : {B : Type 0} (f g : B → ℕ → B) (n start : ℕ) → ((b : B) (k : ℕ) → start ≤ k
    → k < start + n → f b k ≡ g b k)
    → (a : B) → fold f a (range_with_len start n) ≡ fold g a (range_with_len start n)
fold-range_ext f g zero start same a = refl
fold-range_ext f g (suc n) start same a =
    ap (λ b. fold f b (range_with_len (start + 1) n)) (same a start (omega arith) (omega arith))
    ∙ fold-range_ext f g n (start + 1) (λ b k low high. same b k (omega arith) (omega arith)) (g a start)

-- a fold over lists, one after the other
pub fold-flat_map : {A B C : Type 0} (f : B → C → B) (g : A → List C) (a : B) (xs : List A)
    → fold f a (flat_map g xs) ≡ fold (λ b x. fold f b (g x)) a xs
fold-flat_map f g a [] = refl
fold-flat_map f g a (x ∷ xs) = fold-append f a (g x) (flat_map g xs) ∙ fold-flat_map f g (fold f a (g x)) xs

-- a fold over a filter passes by what does not pass
pub fold-filter : {A B : Type 0} (f : B → A → B) (p : A → Bool) (a : B) (xs : List A) → fold f a (filter p xs)
    ≡ fold (λ b x. cond (p x) (f b x) b) a xs
fold-filter f p a [] = refl
fold-filter f p a (x ∷ xs) =
    elim (cases_Bool (p x)) [
      | inl t ↦ rw t (fold-filter f p (f a x) xs)
      | inr fails ↦
          rw fails (fold-filter f p a xs)
    ]

-- a fold over the cells that pass a test which nothing outside of a window passes is a fold over its rows of folds over
-- its columns
pub window-fold : {B : Type 0} (f : B → Cell → B) (a : B) (e : Extent) (test : Cell → Bool)
    (top bottom left right : ℕ) → top ≤ bottom → bottom ≤ e.rows
    → left ≤ right → right ≤ e.cols → IsWithinWindow top bottom left right test
    → fold (λ b k. f b (cell_of e k)) a (cells_where e test).indexes
    ≡ fold (λ b r. fold (λ x c. cond (test (record { row = r; col = c })) (f x (record { row = r; col = c })) x) b
    (range_with_len left (right - left))) a
    (range_with_len top (bottom - top))
window-fold f a e test top bottom left right tall high order wide within =
    let make : ℕ → ℕ → Cell = λ x y. record { row = x; col = y } in
    ap (fold (λ b k. f b (cell_of e k)) a) (window-filter e test top bottom left right tall high order wide within)
    ∙ fold-flat_map (λ b k. f b (cell_of e k)) (λ r. map (λ c. r * e.cols + c) (cols_where test left right r)) a
    (range_with_len top (bottom - top))
    ∙ fold-ext (λ b r. fold (λ x k. f x (cell_of e k)) b
    (map (λ c. r * e.cols + c) (cols_where test left right r)))
    (λ b r. fold (λ x c. cond (test (make r c)) (f x (make r c)) x) b (range_with_len left (right - left)))
    (λ b r.
    fold-map (λ x k. f x (cell_of e k)) (λ c. r * e.cols + c) b (cols_where test left right r)
    ∙ fold-filter (λ x c. f x (cell_of e (r * e.cols + c))) (λ c. test (make r c)) b
    (range_with_len left (right - left))
    ∙ fold-range_ext (λ x c. cond (test (make r c)) (f x (cell_of e (r * e.cols + c))) x)
    (λ x c. cond (test (make r c)) (f x (make r c)) x) (right - left) left
    (λ x c low end.
    let inside : c < e.cols = omega arith in
    ap (λ (d : Cell). cond (test (make r c)) (f x d) x) (ap₂ make (div-mul-add r e.cols c inside)
    (mod-mul-add r e.cols c inside)))
    b)
    a (range_with_len top (bottom - top))

-- ---- a window added to a bitmap, row by row

-- the union of two sets made by tests has the cells that pass either
pub union-where : (e : Extent) (p q r : Cell → Bool) → ((c : Cell) → holds e c ≡ true → (p c || q c) ≡ r c)
    → union_of (cells_where e p) (cells_where e q) ≡ cells_where e r
union-where e p q r wide =
    cells_where-ext e (λ c. has (cells_where e p) c || has (cells_where e q) c) r
    (λ c held. ap₂ (λ (x y : Bool). x || y) (has-cells_where e p c held) (has-cells_where e q c held)
    ∙ wide c held)

-- to a set, cells were added that pass a test; more are added
pub union-where_more : (a : Cells) (p q r : Cell → Bool) → ((c : Cell) → holds a.extent c ≡ true
    → (p c || q c) ≡ r c)
    → union_of (union_of a (cells_where a.extent p)) (cells_where a.extent q) ≡ union_of a (cells_where a.extent r)
union-where_more a p q r wide =
    let e : Extent = a.extent in
    union-step a (cells_where e p) (cells_where e q) (cells_where e r)
    (λ c held.
    ap₂ (λ (x y : Bool). x || y) (has-cells_where e p c held) (has-cells_where e q c held)
    ∙ wide c held
    ∙ sym (has-cells_where e r c held))

-- to a set of its cells, none were added
pub union-where_none : (a : Cells) (p : Cell → Bool) → a ≡ cells_where a.extent (has a)
    → ((c : Cell) → holds a.extent c ≡ true → p c ≡ false)
    → a ≡ union_of a (cells_where a.extent p)
union-where_none a p own none =
    let e : Extent = a.extent in
    own
    ∙ cells_where-ext e (has a) (λ c. has a c || has (cells_where e p) c)
    (λ c held. sym (ap (λ b. has a c || b) (has-cells_where e p c held ∙ none c held) ∙ or-false (has a c)))

-- a run in one row is a window of that row
pub run-window : (e : Extent) (row left right : ℕ) → row < e.rows → left < right → right ≤ e.cols
    → run_cells e (record { first = row * e.cols + left; last = row * e.cols + (right - 1) }) ≡ cells_where e
    (is_in_window row (row + 1) left right)
run-window e row left right inside some wide =
    let run : Run = record { first = row * e.cols + left; last = row * e.cols + (right - 1) } in
    let last_cell : Cell = record { row = row; col = right - 1 } in
    let held : holds e last_cell ≡ true = and_from _ _ (lt-ltb row e.rows inside)
    (lt-ltb (right - 1) e.cols (omega arith)) in
    run_cells-at e run (omega arith) (index-below e last_cell held)
    ∙ cells_at-ext e (is_in run) (λ k. is_in_window row (row + 1) left right (cell_of e k))
    (λ k below.
    let whole = div-add-mod' k e.cols in
    same_truth (is_in run k) (is_in_window row (row + 1) left right (cell_of e k))
    (λ in_run.
    let ends = and_parts (nat_le run.first k) (nat_le k run.last) in_run in
    let low = leb-true run.first k ends.0 in
    let high = leb-true k run.last ends.1 in
    let col : ℕ = k - row * e.cols in
    let at : row * e.cols + col ≡ k = omega arith in
    let narrow : col < e.cols = omega arith in
    let r : k / e.cols ≡ row = ap (λ (n : ℕ). n / e.cols) (sym at) ∙ div-mul-add row e.cols col narrow in
    let c : k % e.cols ≡ col = ap (λ (n : ℕ). n % e.cols) (sym at) ∙ mod-mul-add row e.cols col narrow in
    and_from _ _ (and_from _ _ (le-leb row (k / e.cols) (omega arith)) (lt-ltb (k / e.cols) (row + 1) (omega arith)))
    (and_from _ _ (le-leb left (k % e.cols) (omega arith)) (lt-ltb (k % e.cols) right (omega arith))))
    (λ in_window.
    let w = window-within row (row + 1) left right (cell_of e k) in_window in
    let r : k / e.cols ≡ row = omega (arith, w.0, w.1) in
    let same : k / e.cols * e.cols ≡ row * e.cols = ap (λ (q : ℕ). q * e.cols) r in
    and_from _ _ (le-leb run.first k (omega (arith, w.2))) (le-leb k run.last (omega (arith, w.3)))))

and-or : (x y z : Bool) → ((x && z) || (y && z)) ≡ ((x || y) && z)
and-or true y true = refl
and-or true true false = refl
and-or true false false = refl
and-or false y z = refl

-- the rows of a window so far, and one more
pub window-more : (top row left right : ℕ) (c : Cell) → top ≤ row
    → (is_in_window top row left right c || is_in_window row (row + 1) left right c) ≡ is_in_window top (row + 1)
    left right c
window-more top row left right c low =
    let rows : ((nat_le top c.row && nat_lt c.row row) || (nat_le row c.row && nat_lt c.row (row + 1)))
    ≡ (nat_le top c.row && nat_lt c.row (row + 1)) = grind (arith, nat_tests) in
    and-or (nat_le top c.row && nat_lt c.row row) (nat_le row c.row && nat_lt c.row (row + 1)) (nat_le left c.col
    && nat_lt c.col right)
    ∙ ap (λ b. b && (nat_le left c.col && nat_lt c.col right)) rows

-- the step of a loop that adds a window to a set row by row, each row by its run
pub window-step : (a : Cells) (top row left right : ℕ) → top ≤ row → row < a.extent.rows → left < right
    → right ≤ a.extent.cols
    → union_of (union_of a (cells_where a.extent (is_in_window top row left right)))
    (run_cells a.extent (record { first = row * a.extent.cols + left; last = row * a.extent.cols + (right - 1) }))
    ≡ union_of a (cells_where a.extent (is_in_window top (row + 1) left right))
window-step a top row left right low inside some wide =
    let e : Extent = a.extent in
    ap (union_of (union_of a (cells_where e (is_in_window top row left right)))) (run-window e row left right inside
    some wide)
    ∙ union-where_more a (is_in_window top row left right) (is_in_window row (row + 1) left right)
    (is_in_window top (row + 1) left right)
    (λ c held. window-more top row left right c low)

-- before its first row
pub window-start : (a : Cells) (top left right : ℕ) → a ≡ cells_where a.extent (has a)
    → a ≡ union_of a (cells_where a.extent (is_in_window top top left right))
window-start a top left right own =
    union-where_none a (is_in_window top top left right) own
    (λ c held.
    false_from_ne_true (is_in_window top top left right c)
    (λ passes. let w = window-within top top left right c passes in omega (arith, w.0, w.1)))

-- ---- one cell

-- the set of one cell has its index alone
pub single-cell : (e : Extent) (c : Cell) → holds e c ≡ true → cells_where e (is_same c)
    ≡ record { extent = e; indexes = index_of e c ∷ [] }
single-cell e c held =
    let make : List ℕ → Cells = λ xs. record { extent = e; indexes = xs } in
    ap make
    (filter-range_ext (λ k. is_same c (cell_of e k)) (λ k. list_any (λ x. x == k) (index_of e c ∷ [])) 0
    (size_of e)
    (λ k low high. is_same-flip c (cell_of e k) ∙ sym (index-is_same e c k held)
    ∙ sym (or-false (index_of e c == k)))
    ∙ rising-filter (size_of e) 0 (size_of e) (index_of e c ∷ []) (omega arith) (
      omega arith,
      index-below e c held,
      tt,
    ))

-- The numbers that the cells of a set hold, where the set is made row by row.
--
-- The key idea: the indexes of the rows before one are all below those of its cells, so the list of the numbers of both
-- is the one list behind the other.
use Rattle.std.proofs.Common.{◌≡◌, ℕ, zero, suc, ◌+◌, ◌-◌, ◌*◌, ◌/◌, ◌<◌, ◌≤◌, Bool, false, List, [], ◌∷◌, ◌++◌}
use Rattle.std.proofs.Common.{length, Option, Some, None, refl, sym, ap, ap₂, ◌∙◌, arith, inl, inr, take, drop, get_or}
use Rattle.std.proofs.Common.{append-nil}
use Rattle.std.specs.Prelude.{ℤ, unwrap_or}
use Rattle.std.specs.List.{filter, filter_map, cons_option, range_with_len, slice_get}
use Rattle.std.proofs.Math.Seq.{drop-cons}
use Rattle.std.proofs.lemmas.Bool.{cases_Bool, cases_lt}
use Rattle.std.proofs.lemmas.Nat.{le-div, div-add-mod'}
use Rattle.std.proofs.lemmas.Option.{unwrap_or-slice_get}
use Rattle.std.proofs.lemmas.List.Elements.{filter-append, filter_map-append}
use Rattle.std.proofs.lemmas.List.FromFn.{length-range_with_len}
use Rattle.std.proofs.Math.Nat.{mul-le-mul_right}
use Rattle.sz_cells.specs.declared.Cell.{Cell}
use Rattle.sz_cells.specs.Extent.{size_of, cell_of}
use Rattle.sz_cells.specs.Cells.{Cells, cells_where}
use Rattle.sz_cells.proofs.Sets.{filter-range_ext, index-cell}
use Rattle.sz_cells.proofs.Rising.{filter-false}
use Rattle.sz_cells.proofs.Windows.{range-append, run-window, is_in_window}
use Rattle.sz_spec.specs.Values.{Grid, value_at, numbers_at}
use Rattle.sz_frame.specs.Folding.{numbers_in}

-- a range filtered by a test that is one test below a number and another from it on
filter-join : (p q r : ℕ → Bool) (m n : ℕ) → ((k : ℕ) → k < m → (r k ≡ p k) × (q k ≡ false))
    → ((k : ℕ) → m ≤ k → (r k ≡ q k) × (p k ≡ false))
    → filter r (range_with_len 0 (m + n)) ≡ filter p (range_with_len 0 (m + n)) ++ filter q (range_with_len 0 (m + n))
filter-join p q r m n low high =
    let a = range_with_len 0 m in
    let b = range_with_len m n in
    let at : 0 + m ≡ m = omega arith in
    let split : range_with_len 0 (m + n) ≡ a ++ b =
    range-append m 0 n ∙ ap (λ (c : ℕ). a ++ range_with_len c n) at in
    let none : (test : ℕ → Bool) (c l : ℕ) → ((k : ℕ) → c ≤ k → k < c + l → test k ≡ false)
    → filter test (range_with_len c l) ≡ [] =
    λ test c l off. filter-range_ext test (λ _. false) c l off ∙ filter-false (range_with_len c l) in
    let of_r : filter r (range_with_len 0 (m + n)) ≡ filter p a ++ filter q b =
    ap (filter r) split ∙ filter-append r a b
    ∙ ap₂ (λ (xs ys : List ℕ). xs ++ ys) (filter-range_ext r p 0 m (λ k from to. (low k (omega (arith, to))).0))
    (filter-range_ext r q m n (λ k from to. (high k from).0)) in
    let of_p : filter p (range_with_len 0 (m + n)) ≡ filter p a =
    ap (filter p) split ∙ filter-append p a b
    ∙ ap (λ (ys : List ℕ). filter p a ++ ys) (none p m n (λ k from to. (high k from).1))
    ∙ append-nil (filter p a) in
    let of_q : filter q (range_with_len 0 (m + n)) ≡ filter q b =
    ap (filter q) split ∙ filter-append q a b
    ∙ ap (λ (xs : List ℕ). xs ++ filter q b) (none q 0 m (λ k from to. (low k (omega (arith, to))).1)) in
    of_r ∙ ap₂ (λ (xs ys : List ℕ). xs ++ ys) (sym of_p) (sym of_q)

-- the row of an index
row-below : (k cols row : ℕ) → 0 < cols → k < row * cols → k / cols < row
row-below k cols row some low =
    elim (cases_lt (k / cols) row) [
      | inl less ↦ less
      | inr more ↦
          let whole = div-add-mod' k cols in
          let above : row * cols ≤ k / cols * cols = mul-le-mul_right cols more in
          absurd (omega (arith, whole, above, low))
    ]

-- the numbers of cells that pass: those of the rows before one, and those from it on
pub numbers-join : (g : Grid) (p q r : Cell → Bool) (row : ℕ) → 0 < g.extent.cols → row ≤ g.extent.rows
    → ((c : Cell) → c.row < row → (r c ≡ p c) × (q c ≡ false))
    → ((c : Cell) → row ≤ c.row → (r c ≡ q c) × (p c ≡ false))
    → numbers_at g (cells_where g.extent r)
    ≡ numbers_at g (cells_where g.extent p) ++ numbers_at g (cells_where g.extent q)
numbers-join g p q r row some inside low high =
    let e = g.extent in
    let h : ℕ → Option ℤ = λ k. value_at g (cell_of e k) in
    let m = row * e.cols in
    let most : m ≤ e.rows * e.cols = mul-le-mul_right e.cols inside in
    let parts : m + (size_of e - m) ≡ size_of e = omega (arith, most) in
    ap (filter_map h)
    (rw parts at (filter-join (λ k. p (cell_of e k)) (λ k. q (cell_of e k)) (λ k. r (cell_of e k)) m (size_of e - m)
    (λ k less. low (cell_of e k) (row-below k e.cols row some less))
    (λ k more. high (cell_of e k) (le-div row k e.cols some more))))
    ∙ filter_map-append h (cells_where e p).indexes (cells_where e q).indexes

-- one value adds at most one number
few-more : {Y : Type 0} (v : Option Y) (ys : List Y) (n : ℕ) → length ys ≤ n → length (cons_option v ys) ≤ suc n
few-more None ys n h = omega arith
few-more (Some y) ys n h = omega arith

-- there are no more numbers than cells
few : {X Y : Type 0} (h : X → Option Y) (p : X → Bool) (xs : List X) → length (filter_map h (filter p xs)) ≤ length xs
few h p [] = omega arith
few h p (x ∷ xs) =
    let rest = few h p xs in
    elim (cases_Bool (p x)) [
      | inl t ↦ rw t (few-more (h x) (filter_map h (filter p xs)) (length xs) rest)
      | inr f ↦ rw f (omega (arith, rest))
    ]

pub numbers-few : (g : Grid) (p : Cell → Bool) → length (numbers_at g (cells_where g.extent p)) ≤ size_of g.extent
numbers-few g p =
    let all = few (λ k. value_at g (cell_of g.extent k)) (λ k. p (cell_of g.extent k))
    (range_with_len 0 (size_of g.extent)) in
    omega (arith, all, length-range_with_len 0 (size_of g.extent))

-- cells that none passes hold no number
pub numbers-none : (g : Grid) (p : Cell → Bool) → ((c : Cell) → p c ≡ false)
    → numbers_at g (cells_where g.extent p) ≡ []
numbers-none g p none =
    ap (filter_map (λ k. value_at g (cell_of g.extent k)))
    (filter-range_ext (λ k. p (cell_of g.extent k)) (λ _. false) 0 (size_of g.extent)
    (λ k low high. none (cell_of g.extent k)) ∙ filter-false (range_with_len 0 (size_of g.extent)))

-- the values at the numbers of a range are those of a part of the list
part-values : (vs : List (Option ℤ)) (n a : ℕ) → a + n ≤ length vs
    → filter_map (λ k. unwrap_or (slice_get vs k) None) (range_with_len a n) ≡ numbers_in (take n (drop a vs))
part-values vs zero a within = refl
part-values vs (suc n) a within =
    let here : a < length vs = omega arith in
    let next : suc a ≡ a + 1 = omega arith in
    let head : drop a vs ≡ get_or vs a None ∷ drop (a + 1) vs =
    drop-cons vs a None here ∙ ap (λ (k : ℕ). get_or vs a None ∷ drop k vs) next in
    ap₂ (λ (v : Option ℤ) (zs : List ℤ). cons_option v zs) (unwrap_or-slice_get vs a None)
    (part-values vs n (a + 1) (omega arith))
    ∙ sym (ap (λ (xs : List (Option ℤ)). numbers_in (take (suc n) xs)) head)

-- two functions that agree give one list
filter_map-ext : {X Y : Type 0} (f h : X → Option Y) → ((x : X) → f x ≡ h x) → (xs : List X)
    → filter_map f xs ≡ filter_map h xs
filter_map-ext f h same [] = refl
filter_map-ext f h same (x ∷ xs) =
    ap₂ (λ v ys. cons_option v ys) (same x) (filter_map-ext f h same xs)

-- so the numbers of a part of a row are those among the values of its indexes
pub numbers-row : (g : Grid) (row left right : ℕ) → length g.values ≡ size_of g.extent → row < g.extent.rows
    → left < right → right ≤ g.extent.cols
    → numbers_at g (cells_where g.extent (is_in_window row (row + 1) left right))
    ≡ numbers_in (take (right - left) (drop (row * g.extent.cols + left) g.values))
numbers-row g row left right whole inside some wide =
    let e = g.extent in
    let first = row * e.cols + left in
    let h : ℕ → Option ℤ = λ k. value_at g (cell_of e k) in
    let count : (row * e.cols + (right - 1)) - first + 1 ≡ right - left = omega arith in
    let next : row + 1 ≤ e.rows = omega arith in
    let most : (row + 1) * e.cols ≤ e.rows * e.cols = mul-le-mul_right e.cols next in
    let within : first + (right - left) ≤ length g.values = grind (arith, most, whole, wide, some) in
    ap (λ (s : Cells). filter_map h s.indexes) (sym (run-window e row left right inside some wide))
    ∙ ap (λ (n : ℕ). filter_map h (range_with_len first n)) count
    ∙ filter_map-ext h (λ k. unwrap_or (slice_get g.values k) None)
    (λ k. ap (λ (i : ℕ). unwrap_or (slice_get g.values i) None) (index-cell e k)) (range_with_len first (right - left))
    ∙ part-values g.values (right - left) first within

-- What follows of shapes and of sets of cells.
--
-- The key idea: a set made by a test is a filter of the row-major indexes 0, 1, 2, .., and an index stands in that
-- filter exactly where its cell passes. Row-major indexes and cells are one to one, so facts about cells become facts
-- about numbers, where each is one induction over the range.
use Rattle.std.proofs.Common.{get_or, inl, inr, true≢false, ◌≡◌, ℕ, zero, suc, ◌+◌, ◌/◌, ◌%◌}
use Rattle.std.proofs.Common.{◌<◌, ◌≤◌, Bool, true, false, cond, ◌&&◌, ◌||◌, ◌==◌, nat_lt, nat_le}
use Rattle.std.proofs.Common.{List, [], ◌∷◌, map, refl, sym, ap, ap₂, subst, ◌∙◌, arith, zero-add}
use Rattle.std.proofs.Common.{eqb-true, eq-eqb, ltb-true, lt-ltb, mul_comm}
use Rattle.std.specs.List.{All, filter, list_any, range_with_len}
use Rattle.std.specs.List.Sorted.{IsStrictlyIncreasing}
use Rattle.std.proofs.lemmas.Bool.{or_cases, or_left, or_right, and_parts, and_from, cases_Bool, false_from_ne_true}
use Rattle.std.proofs.lemmas.Bool.Decides.{nat_tests}
use Rattle.std.proofs.lemmas.List.Elements.{All-filter, All-from_get_or}
use Rattle.std.proofs.lemmas.List.Folds.{list_any_at, list_any_none}
use Rattle.std.proofs.lemmas.List.FromFn.{length-range_with_len, get_or-range_with_len}
use Rattle.std.proofs.lemmas.List.Kept.{IsStrictlyIncreasing-filter}
use Rattle.std.proofs.lemmas.Map.Views.{any-filter_same}
use Rattle.std.proofs.lemmas.Nat.{div-mul-add, mod-mul-add, mul-add-lt, div-add-mod', div_below, mod_below}
use Rattle.sz_cells.specs.declared.Cell.{Cell}
use Rattle.sz_cells.specs.Extent.{Extent, size_of, holds, index_of, cell_of}
use Rattle.sz_cells.specs.Cells.{Cells, is_same, cells_where, any_cell, has}

-- ---- lists

-- two tests that agree everywhere find alike
list_any-ext : {X : Type 0} (p q : X → Bool) → ((x : X) → p x ≡ q x) → (xs : List X) → list_any p xs
    ≡ list_any q xs
list_any-ext p q h [] = refl
list_any-ext p q h (x ∷ xs) = ap₂ (λ (a b : Bool). a || b) (h x) (list_any-ext p q h xs)

-- where one test is passed and tells the other, the other is passed
any-onward : {X : Type 0} (p q : X → Bool) → ((x : X) → p x ≡ true → q x ≡ true) → (xs : List X)
    → list_any p xs ≡ true → list_any q xs ≡ true
any-onward p q h [] found = found
any-onward p q h (x ∷ xs) found =
    elim (or_cases (p x) (list_any p xs) found) [
      | inl here ↦ or_left (q x) (list_any q xs) (h x here)
      | inr rest ↦ or_right (q x) (list_any q xs) (any-onward p q h xs rest)
    ]

-- a filter before a map and after it
map-filter : {X Y : Type 0} (f : X → Y) (p : Y → Bool) → (xs : List X) → map f (filter (λ x. p (f x)) xs)
    ≡ filter p (map f xs)
map-filter f p [] = refl
map-filter f p (x ∷ xs) =
    elim (cases_Bool (p (f x))) [
      | inl t ↦ rw t (ap (λ ys. f x ∷ ys) (map-filter f p xs))
      | inr fails ↦
          rw fails (map-filter f p xs)
    ]

-- two tests that are true together are equal
pub same_truth : (a b : Bool) → (a ≡ true → b ≡ true) → (b ≡ true → a ≡ true) → a ≡ b
same_truth a b there back =
    elim (cases_Bool a) [
      | inl t ↦ t ∙ sym (there t)
      | inr f ↦ f ∙ sym (false_from_ne_true b (λ passes. true≢false (sym (back passes) ∙ f)))
    ]

-- ---- cells and row-major indexes

-- a cell that a shape holds is in range
pub row-held : (e : Extent) (c : Cell) → holds e c ≡ true → (c.row < e.rows) × (c.col < e.cols)
row-held e c h =
    let both = and_parts (nat_lt c.row e.rows) (nat_lt c.col e.cols) h in
    (ltb-true c.row e.rows both.0, ltb-true c.col e.cols both.1)

-- the index of a cell of a shape is below the shape's size
pub index-below : (e : Extent) (c : Cell) → holds e c ≡ true → index_of e c < size_of e
index-below e c h =
    let r = row-held e c h in
    omega (arith, mul-add-lt c.row e.cols c.col e.rows r.0 r.1, mul_comm e.rows e.cols)

-- a shape with a cell has a column
pub cols-some : (e : Extent) (k : ℕ) → k < size_of e → 0 < e.cols
cols-some e k h = grind arith

-- the cell of an index below the size is one of the shape
pub cell-held : (e : Extent) (k : ℕ) → k < size_of e → holds e (cell_of e k) ≡ true
cell-held e k h =
    let some = cols-some e k h in
    and_from _ _ (lt-ltb (k / e.cols) e.rows (div_below k e.cols e.rows some h)) (lt-ltb (k % e.cols) e.cols
    (mod_below k e.cols some))

-- from an index to its cell and back
pub index-cell : (e : Extent) (k : ℕ) → index_of e (cell_of e k) ≡ k
index-cell e k = div-add-mod' k e.cols

-- from a cell of the shape to its index and back
pub cell-index : (e : Extent) (c : Cell) → holds e c ≡ true → cell_of e (index_of e c) ≡ c
cell-index e c h =
    let r = row-held e c h in
    let make : ℕ → ℕ → Cell = λ x y. record { row = x; col = y } in
    ap₂ make (div-mul-add c.row e.cols c.col r.1) (mod-mul-add c.row e.cols c.col r.1)

-- ---- ranges, filtered

-- two tests that agree on a range keep the same numbers of it
pub filter-range_ext : (p q : ℕ → Bool) (a n : ℕ) → ((k : ℕ) → a ≤ k → k < a + n → p k ≡ q k)
    → filter p (range_with_len a n) ≡ filter q (range_with_len a n)
filter-range_ext p q a zero h = refl
filter-range_ext p q a (suc n) h =
    ap₂ (λ (b : Bool) (xs : List ℕ). cond b (a ∷ xs) xs) (h a (omega arith) (omega arith))
    (filter-range_ext p q (a + 1) n (λ k low high. h k (omega arith) (omega arith)))

-- a number stands in a range exactly between its ends
pub any-range : (i a n : ℕ) → list_any (λ k. k == i) (range_with_len a n) ≡ (nat_le a i && nat_lt i (a + n))
any-range i a zero = grind (arith, nat_tests)
any-range i a (suc n) =
    let rest = any-range i (a + 1) n in
    rw rest (grind (arith, nat_tests))

-- a number stands in a filtered range exactly between its ends, where it passes
pub any-filter_range : (p : ℕ → Bool) (i a n : ℕ) → list_any (λ k. k == i) (filter p (range_with_len a n))
    ≡ (p i && (nat_le a i && nat_lt i (a + n)))
any-filter_range p i a n =
    any-filter_same (λ k. k == i) p (p i) (λ k same. ap p (eqb-true k i same)) (range_with_len a n)
    ∙ ap (λ b. p i && b) (any-range i a n)

-- the same of a number that is in the range
pub any-filter_range_at : (p : ℕ → Bool) (i n : ℕ) → i < n → list_any (λ k. k == i)
    (filter p (range_with_len 0 n)) ≡ p i
any-filter_range_at p i n h =
    let there : (nat_le 0 i && nat_lt i (0 + n)) ≡ true = grind (arith, nat_tests) in
    any-filter_range p i 0 n ∙ (rw there (elim (cases_Bool (p i)) [ inl t ↦ rw t refl | inr f ↦ rw f refl ]))

-- a number that is found in a filtered range is of the range and passes both tests
any_range-true : (p q : ℕ → Bool) (a n : ℕ) → list_any q (filter p (range_with_len a n)) ≡ true → (k : ℕ)
    × (k < a + n) × (p k ≡ true) × (q k ≡ true)
any_range-true p q a zero h = absurd (true≢false (sym h))
any_range-true p q a (suc n) h =
    let later : list_any q (filter p (range_with_len (a + 1) n)) ≡ true → (k : ℕ) × (k < a + suc n)
    × (p k ≡ true) × (q k ≡ true) =
    λ found. let one = any_range-true p q (a + 1) n found in (one.0, omega (arith, one.1), one.2, one.3) in
    elim (cases_Bool (p a)) [
      | inl passes ↦
          elim (or_cases (q a) (list_any q (filter p (range_with_len (a + 1) n))) (rw passes at h)) [
            | inl here ↦ (a, omega arith, passes, here)
            | inr rest ↦ later rest
          ]
      | inr fails ↦ later (rw fails at h)
    ]

-- a number of the range that passes both is found
any_range-from : (p q : ℕ → Bool) (i a n : ℕ) → a ≤ i → i < a + n → p i ≡ true → q i ≡ true
    → list_any q (filter p (range_with_len a n)) ≡ true
any_range-from p q i a n low high passes both =
    let there : list_any (λ k. k == i) (filter p (range_with_len a n)) ≡ true = rw (
      any-filter_range p i a n,
      passes,
    ) (grind (arith, nat_tests)) in
    any-onward (λ k. k == i) q (λ k same. ap q (eqb-true k i same) ∙ both) (filter p (range_with_len a n)) there

-- ---- sets of cells that pass a test

-- a cell of the shape is in the set of those that pass exactly where it passes
pub has-cells_where : (e : Extent) (p : Cell → Bool) (c : Cell) → holds e c ≡ true → has (cells_where e p) c
    ≡ p c
has-cells_where e p c h =
    let passes = any-filter_range_at (λ k. p (cell_of e k)) (index_of e c) (size_of e) (index-below e c h) in
    rw h (passes ∙ ap p (cell-index e c h))

-- any cell is in that set exactly where the shape holds it and it passes
pub has-cells_where_any : (e : Extent) (p : Cell → Bool) (c : Cell) → has (cells_where e p) c ≡ (holds e c && p c)
has-cells_where_any e p c =
    elim (cases_Bool (holds e c)) [ inl t ↦ has-cells_where e p c t ∙ (rw t refl) | inr f ↦ rw f refl ]

-- two tests that agree on each cell of the shape give one set
pub cells_where-ext : (e : Extent) (p q : Cell → Bool) → ((c : Cell) → holds e c ≡ true → p c ≡ q c)
    → cells_where e p ≡ cells_where e q
cells_where-ext e p q h =
    let make : List ℕ → Cells = λ xs. record { extent = e; indexes = xs } in
    ap make (filter-range_ext (λ k. p (cell_of e k)) (λ k. q (cell_of e k)) 0 (size_of e)
    (λ k low high. h (cell_of e k) (cell-held e k (omega arith))))

-- the cells of the shape that are in a set made by a test are that set
pub cells_where-has : (e : Extent) (p : Cell → Bool) → cells_where e (has (cells_where e p)) ≡ cells_where e p
cells_where-has e p = cells_where-ext e (has (cells_where e p)) p (has-cells_where e p)

-- the cell of an index below the size is in a set of the shape exactly where the index is one of the set's
pub has-index : (set : Cells) (e : Extent) (k : ℕ) → set.extent ≡ e → k < size_of e → has set (cell_of e k)
    ≡ list_any (λ x. x == k) set.indexes
has-index set e k same below =
    let here : (f : Extent) → set.extent ≡ f → k < size_of set.extent → has set (cell_of f k)
    ≡ list_any (λ x. x == k) set.indexes =
    λ f path small.
    subst (λ (g : Extent). has set (cell_of g k) ≡ list_any (λ x. x == k) set.indexes) path
    (rw (cell-held set.extent k small, index-cell set.extent k) refl) in
    here e same (subst (λ (g : Extent). k < size_of g) (sym same) below)

-- ---- one cell

-- the test that two cells are one tells that they are equal
pub is_same-true : (a b : Cell) → is_same a b ≡ true → a ≡ b
is_same-true a b h =
    let both = and_parts (a.row == b.row) (a.col == b.col) h in
    let make : ℕ → ℕ → Cell = λ x y. record { row = x; col = y } in
    ap₂ make (eqb-true a.row b.row both.0) (eqb-true a.col b.col both.1)

-- a cell is the same as itself
pub is_same-refl : (a : Cell) → is_same a a ≡ true
is_same-refl a = and_from _ _ (eq-eqb a.row a.row refl) (eq-eqb a.col a.col refl)

-- equal cells are the same
pub is_same-from : (a b : Cell) → a ≡ b → is_same a b ≡ true
is_same-from a b h = rw (← h) (is_same-refl a)

-- the order of the two cells is free
pub is_same-flip : (a b : Cell) → is_same a b ≡ is_same b a
is_same-flip a b = grind (arith, nat_tests)

-- the index of a cell of the shape is that number exactly where the cell of that number is the same
pub index-is_same : (e : Extent) (c : Cell) (k : ℕ) → holds e c ≡ true → (index_of e c == k)
    ≡ is_same (cell_of e k) c
index-is_same e c k h =
    elim (cases_Bool (is_same (cell_of e k) c)) [
      | inl t ↦
          let one = is_same-true (cell_of e k) c t in
          eq-eqb (index_of e c) k (ap (index_of e) (sym one) ∙ index-cell e k) ∙ sym t
      | inr f ↦
          false_from_ne_true (index_of e c == k)
          (λ same.
          let at = eqb-true (index_of e c) k same in
          true≢false (sym (is_same-from (cell_of e k) c (ap (cell_of e) (sym at) ∙ cell-index e c h)) ∙ f))
          ∙ sym f
    ]

-- ---- some cell of a set passes a test

-- the number at a place of a range that begins at 0 is the place
range-at : (n i : ℕ) → i < n → get_or (range_with_len 0 n) i 0 ≡ i
range-at n i h = get_or-range_with_len 0 n i 0 h ∙ zero-add i

-- what holds of each number of a range holds of each element of it
range-All : (P : ℕ → Type 0) (n : ℕ) → ((k : ℕ) → k < n → P k) → All P (range_with_len 0 n)
range-All P n h =
    All-from_get_or P (range_with_len 0 n) 0
    (λ i inside.
    let below : i < n = omega (arith, length-range_with_len 0 n) in
    rw (range-at n i below) (h i below))

-- some cell of the shape is the same as a cell of the shape
any-same_held : (e : Extent) (x : Cell) → holds e x ≡ true → list_any (λ k. is_same x (cell_of e k))
    (range_with_len 0 (size_of e)) ≡ true
any-same_held e x h =
    let below = index-below e x h in
    list_any_at (λ k. is_same x (cell_of e k)) (range_with_len 0 (size_of e)) (index_of e x) 0
    (omega (arith, length-range_with_len 0 (size_of e)))
    (rw (range-at (size_of e) (index_of e x) below) (is_same-from x (cell_of e (index_of e x))
    (sym (cell-index e x h))))

-- no cell of the shape is the same as one outside of it
any-same_outside : (e : Extent) (x : Cell) → holds e x ≡ false → list_any (λ k. is_same x (cell_of e k))
    (range_with_len 0 (size_of e)) ≡ false
any-same_outside e x h =
    list_any_none (λ k. is_same x (cell_of e k)) (range_with_len 0 (size_of e))
    (range-All (λ k. is_same x (cell_of e k) ≡ false) (size_of e)
    (λ k below.
    false_from_ne_true (is_same x (cell_of e k))
    (λ same. true≢false (sym (cell-held e k below) ∙ ap (holds e) (sym (is_same-true x (cell_of e k) same))
    ∙ h))))

-- the cells that pass hold one that is the same as x exactly where the shape holds x and x passes
pub any_cell-same_any : (e : Extent) (p : Cell → Bool) (x : Cell) → any_cell (λ o. is_same x o) (cells_where e p)
    ≡ (holds e x && p x)
any_cell-same_any e p x =
    let kept = any-filter_same (λ k. is_same x (cell_of e k)) (λ k. p (cell_of e k)) (p x)
    (λ k same. ap p (sym (is_same-true x (cell_of e k) same))) (range_with_len 0 (size_of e)) in
    kept ∙ (elim (cases_Bool (holds e x)) [
      | inl t ↦ rw (any-same_held e x t, t) (elim (cases_Bool (p x)) [
        | inl passes ↦ rw passes refl
        | inr fails ↦
            rw fails refl
      ])
      | inr f ↦ rw (any-same_outside e x f, f) (elim (cases_Bool (p x)) [
        | inl passes ↦ rw passes refl
        | inr
            fails ↦ rw fails refl
      ])
    ])

-- the same of a cell of the shape
pub any_cell-same : (e : Extent) (p : Cell → Bool) (x : Cell) → holds e x ≡ true → any_cell (λ o. is_same x o)
    (cells_where e p) ≡ p x
any_cell-same e p x h = any_cell-same_any e p x ∙ (rw h refl)

-- the same with the two cells turned
pub any_cell-same_turned : (e : Extent) (p : Cell → Bool) (x : Cell) → holds e x ≡ true
    → any_cell (λ o. is_same o x) (cells_where e p) ≡ p x
any_cell-same_turned e p x h =
    list_any-ext (λ k. is_same (cell_of e k) x) (λ k. is_same x (cell_of e k)) (λ k. is_same-flip (cell_of e k) x)
    (cells_where e p).indexes
    ∙ any_cell-same e p x h

-- where some cell of the set passes another test, there is one that the shape holds and that passes both
pub any_cell-true : (e : Extent) (p q : Cell → Bool) → any_cell q (cells_where e p) ≡ true → (c : Cell)
    × (holds e c ≡ true) × (p c ≡ true) × (q c ≡ true)
any_cell-true e p q h =
    let found = any_range-true (λ k. p (cell_of e k)) (λ k. q (cell_of e k)) 0 (size_of e) h in
    (cell_of e found.0, cell-held e found.0 (omega (arith, found.1)), found.2, found.3)

-- a cell of the shape that passes both tests is found
pub any_cell-from : (e : Extent) (p q : Cell → Bool) (c : Cell) → holds e c ≡ true → p c ≡ true
    → q c ≡ true → any_cell q (cells_where e p) ≡ true
any_cell-from e p q c h passes both =
    let back = cell-index e c h in
    any_range-from (λ k. p (cell_of e k)) (λ k. q (cell_of e k)) (index_of e c) 0 (size_of e) (omega arith)
    (omega (arith, index-below e c h)) (ap p back ∙ passes) (ap q back ∙ both)

-- two tests that agree on each cell of the set are passed alike
pub any_cell-ext : (e : Extent) (p q r : Cell → Bool) → ((c : Cell) → holds e c ≡ true → p c ≡ true
    → q c ≡ r c) → any_cell q (cells_where e p) ≡ any_cell r (cells_where e p)
any_cell-ext e p q r h =
    let onward : (a b : Cell → Bool) → ((c : Cell) → holds e c ≡ true → p c ≡ true → a c ≡ b c)
    → any_cell a (cells_where e p) ≡ true → any_cell b (cells_where e p) ≡ true =
    λ a b same found. let one = any_cell-true e p a found in any_cell-from e p b one.0 one.1 one.2
    (sym (same one.0 one.1 one.2) ∙ one.3) in
    same_truth (any_cell q (cells_where e p)) (any_cell r (cells_where e p)) (onward q r h)
    (onward r q (λ c held passes. sym (h c held passes)))

-- ---- the indexes of a set

-- each index of a set made by a test is below the size of the shape
pub indexes-below : (e : Extent) (p : Cell → Bool) → All (λ k. k < size_of e) (cells_where e p).indexes
indexes-below e p = All-filter (λ k. p (cell_of e k)) (λ k. k < size_of e) (range_with_len 0 (size_of e))
    (range-All (λ k. k < size_of e) (size_of e) (λ k h. h))

-- the numbers of a range strictly rise
range-rises : (n : ℕ) → IsStrictlyIncreasing (range_with_len 0 n)
range-rises n k h =
    let inside : k + 1 < n = omega (arith, length-range_with_len 0 n) in
    omega (arith, range-at n k (omega arith), range-at n (k + 1) inside)

-- the indexes of a set made by a test strictly rise
pub indexes-rise : (e : Extent) (p : Cell → Bool) → IsStrictlyIncreasing (cells_where e p).indexes
indexes-rise e p = IsStrictlyIncreasing-filter (λ k. p (cell_of e k)) (range_with_len 0 (size_of e))
    (range-rises (size_of e))

-- the cells of a set made by a test are the cells of the shape in row-major order, those that pass
pub cells-in_order : (e : Extent) (p : Cell → Bool) → map (cell_of e) (cells_where e p).indexes
    ≡ filter p (map (cell_of e) (range_with_len 0 (size_of e)))
cells-in_order e p = map-filter (cell_of e) p (range_with_len 0 (size_of e))

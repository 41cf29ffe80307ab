-- Pieces that are left over, and the cells that they have.
--
-- The key idea: the cells of the pieces below a number that pass a test are counted piece by piece, and each of them
-- has at most the cells that the output has there.
use Rattle.std.proofs.Common.{◌≡◌, ◌==◌, ℕ, zero, suc, ◌+◌, ◌*◌, ◌-◌, ◌/◌, ◌<◌, ◌≤◌, List, [], ◌∷◌, ◌++◌, min, arith}
use Rattle.std.proofs.Common.{Bool, true, false, not, ◌||◌, cond, Some, None, sym, refl, ap, ◌∙◌, eq-eqb, subst}
use Rattle.std.proofs.Common.{sum_by}
use Rattle.std.specs.Prelude.{Option}
use Rattle.std.specs.List.{list_any, find, filter, range_with_len}
use Rattle.std.proofs.lemmas.Bool.{or_left, or_right}
use Rattle.std.proofs.lemmas.List.Sums.{sum_by-append}
use Rattle.std.proofs.lemmas.List.Folds.{list_any-append}
use Rattle.std.proofs.lemmas.List.Elements.{filter-append}
use Rattle.sz_cells.specs.Extent.{Extent, size_of}
use Rattle.sz_cells.proofs.WordRuns.{find-some}
use Rattle.sz_cells.proofs.Windows.{range-append}
use Rattle.sz_spec.specs.Pieces.{pieces_of}
use Rattle.sz_frame.specs.Written.{cells_in_piece}
use Rattle.sz_shelf.specs.Contents.{is_in, missing_in}
use Rattle.sz_pool.specs.Effort.{cells_of}

-- the pieces below n that pass a test
abbrev pub passing : (ℕ → Bool) → ℕ → List ℕ
passing test n = filter test (range_with_len 0 n)

passing-next : (test : ℕ → Bool) (n : ℕ) → passing test (n + 1) ≡ passing test n ++ filter test (n ∷ [])
passing-next test n =
    ap (filter test) (range-append n 0 1) ∙ filter-append test (range_with_len 0 n) (range_with_len (0 + n) 1)
    ∙ ap (λ (k : ℕ). passing test n ++ filter test (k ∷ [])) (omega arith)

-- the cells of the pieces below n + 1 that pass: those below n, and those of piece n where it passes
pub counted-next : (out : Extent) (test : ℕ → Bool) (n : ℕ)
    → cells_of out (passing test (n + 1)) ≡ cells_of out (passing test n) + cells_of out (filter test (n ∷ []))
counted-next out test n =
    ap (cells_of out) (passing-next test n) ∙ sum_by-append (cells_in_piece out) (passing test n) (filter test (n ∷ []))

-- a piece that passes has its cells
pub one-passes : (out : Extent) (test : ℕ → Bool) (n : ℕ) → test n ≡ true
    → cells_of out (filter test (n ∷ [])) ≡ cells_in_piece out n
one-passes out test n passes = rw passes (omega arith)

-- and no piece has more
one-most : (out : Extent) (test : ℕ → Bool) (n : ℕ) → cells_of out (filter test (n ∷ [])) ≤ cells_in_piece out n
one-most out test n = by_test (test n) where
  by_test : (b : Bool) → cells_of out (cond b (n ∷ []) []) ≤ cells_in_piece out n
  by_test true = omega arith
  by_test false = omega arith

counted-rises-by : (out : Extent) (test : ℕ → Bool) (i more : ℕ)
    → cells_of out (passing test i) ≤ cells_of out (passing test (i + more))
counted-rises-by out test i zero = subst (λ (k : ℕ). cells_of out (passing test i) ≤ cells_of out (passing test k))
    (let e : i ≡ i + 0 = omega arith in e) (omega arith)
counted-rises-by out test i (suc more) =
    let before = counted-rises-by out test i more in
    let next = counted-next out test (i + more) in
    subst (λ (k : ℕ). cells_of out (passing test i) ≤ cells_of out (passing test k))
    (let e : i + more + 1 ≡ i + suc more = omega arith in e) (omega (arith, before, next))

-- below a greater number there are no fewer
pub counted-rises : (out : Extent) (test : ℕ → Bool) (i j : ℕ) → i ≤ j
    → cells_of out (passing test i) ≤ cells_of out (passing test j)
counted-rises out test i j h =
    subst (λ (k : ℕ). cells_of out (passing test i) ≤ cells_of out (passing test k))
    (let e : i + (j - i) ≡ j = omega arith in e) (counted-rises-by out test i (j - i))

-- there are no more than the cells before piece n
pub counted-few : (out : Extent) (test : ℕ → Bool) (n : ℕ) → n ≤ pieces_of out
    → cells_of out (passing test n) ≤ min (size_of out) (n * 64)
counted-few out test zero inside = omega arith
counted-few out test (suc n) inside =
    let before = counted-few out test n (omega arith) in
    let next = counted-next out test n in
    let most = one-most out test n in
    subst (λ (k : ℕ). cells_of out (passing test k) ≤ min (size_of out) (k * 64))
    (let e : n + 1 ≡ suc n = omega arith in e) (omega (arith, before, next, most))

-- ---- the least piece that is missing

not-true : (b : Bool) → not b ≡ true → b ≡ false
not-true true e = sym e
not-true false e = refl

not-false : (b : Bool) → not b ≡ false → b ≡ true
not-false true e = refl
not-false false e = sym e

-- The least piece that is missing is one of the output and not in the list, and each before it is.
pub missing-told : (n k : ℕ) (seen : List ℕ) → missing_in n seen ≡ Some k
    → (k < n) × (is_in seen k ≡ false) × ((j : ℕ) → j < k → is_in seen j ≡ true)
missing-told n k seen is =
    let first = find-some (λ k. not (is_in seen k)) n 0 k is in (
      omega (arith, first.1),
      not-true (is_in seen k) first.0.passes,
      λ j less. not-false (is_in seen j) (first.0.before j (omega arith) less),
    )

-- what is in a list is in each that begins with it
pub in-begins : (xs ys rest : List ℕ) (k : ℕ) → ys ≡ xs ++ rest → is_in xs k ≡ true → is_in ys k ≡ true
in-begins xs ys rest k e here =
    ap (λ (l : List ℕ). is_in l k) e ∙ list_any-append (λ (j : ℕ). j == k) xs rest
    ∙ or_left (is_in xs k) (is_in rest k) here

-- what is put behind a list is in it
pub in-last : (xs : List ℕ) (k : ℕ) → is_in (xs ++ k ∷ []) k ≡ true
in-last xs k =
    list_any-append (λ (j : ℕ). j == k) xs (k ∷ [])
    ∙ or_right (is_in xs k) (is_in (k ∷ []) k) (or_left (k == k) false (eq-eqb k k refl))

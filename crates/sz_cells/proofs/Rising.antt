-- Lists of numbers that strictly rise.
--
-- The key idea: a list of rising numbers is the filter of its range by the test that finds a number in the list. So two
-- such lists are equal where the same numbers are found in them, and each of them is a set made by a test.
use Rattle.std.proofs.Common.{drop, drop-cons, ◌≡◌, ℕ, zero, suc, ◌+◌, ◌-◌, ◌<◌, ◌≤◌, Bool}
use Rattle.std.proofs.Common.{true, false, ◌||◌, ◌==◌, List, [], ◌∷◌, ◌++◌, length, get_or, refl, sym}
use Rattle.std.proofs.Common.{ap₂, subst, ◌∙◌, arith, inl, inr, true≢false, eqb-true, eq-eqb, ne_eqb}
use Rattle.std.specs.List.{All, filter, list_any, range_with_len}
use Rattle.std.specs.List.Sorted.{IsStrictlyIncreasing}
use Rattle.std.proofs.lemmas.Bool.{cases_Bool, cases_order, or_cases}
use Rattle.std.proofs.lemmas.List.Elements.{All-head, All-tail}
use Rattle.sz_cells.specs.Rising.{AreRising}
use Rattle.sz_cells.proofs.Sets.{filter-range_ext}

-- a number below all of them is not among them
pub any-rising_below : (least bound k : ℕ) (xs : List ℕ) → AreRising least bound xs → k < least
    → list_any (λ x. x == k) xs ≡ false
any-rising_below least bound k [] rises h = refl
any-rising_below least bound k (x ∷ xs) rises h =
    rw (ne_eqb x k (omega arith)) (any-rising_below (x + 1) bound k xs rises.2 (omega arith))

-- and each that is among them is below the bound
pub rising-below : (least bound k : ℕ) (xs : List ℕ) → AreRising least bound xs → list_any (λ x. x == k) xs
    ≡ true → k < bound
rising-below least bound k [] rises there = absurd (true≢false (sym there))
rising-below least bound k (x ∷ xs) rises there =
    elim (or_cases (x == k) (list_any (λ y. y == k) xs) there) [
      | inl here ↦ omega (arith, eqb-true x k here)
      | inr later ↦ rising-below (x + 1) bound k xs rises.2 later
    ]

-- nothing passes a test that nothing passes
pub filter-false : {X : Type 0} (xs : List X) → filter (λ _. false) xs ≡ []
filter-false [] = refl
filter-false (x ∷ xs) = filter-false xs

-- rising numbers are the numbers of their range that are found among them
pub rising-filter : (n a b : ℕ) (xs : List ℕ) → a + n ≡ b → AreRising a b xs
    → filter (λ k. list_any (λ x. x == k) xs) (range_with_len a n) ≡ xs
rising-filter n a b [] e rises = filter-false (range_with_len a n)
rising-filter zero a b (x ∷ xs) e rises = absurd (omega arith)
rising-filter (suc n) a b (x ∷ xs) e rises =
    elim (cases_order a x) [
      | inl same ↦
          let apart : (k : ℕ) → a + 1 ≤ k → k < (a + 1) + n → ((x == k) || list_any (λ y. y == k) xs)
          ≡ list_any (λ y. y == k) xs =
          λ k low high. rw (ne_eqb x k (omega arith)) refl in
          rw (eq-eqb x a (sym same))
          (ap₂ (λ (y : ℕ) (ys : List ℕ). y ∷ ys) same
          (filter-range_ext (λ k. (x == k) || list_any (λ y. y == k) xs) (λ k. list_any (λ y. y == k) xs) (a + 1) n
          apart
          ∙ rising-filter n (a + 1) b xs (omega arith) (subst (λ (z : ℕ). AreRising (z + 1) b xs) (sym same)
          rises.2)))
      | inr order ↦
          elim order [
            | inl below ↦
                rw (ne_eqb x a (omega arith), any-rising_below (x + 1) b a xs rises.2 (omega arith))
                (rising-filter n (a + 1) b (x ∷ xs) (omega arith) (omega arith, rises.1, rises.2))
            | inr above ↦ absurd (omega arith)
          ]
    ]

-- there are at most as many as the range has
pub rising-length : (n a b : ℕ) (xs : List ℕ) → a + n ≡ b → AreRising a b xs → length xs ≤ n
rising-length n a b [] e rises = omega arith
rising-length n a b (x ∷ xs) e rises =
    omega (arith, rising-length (b - (x + 1)) (x + 1) b xs (omega arith) rises.2)

-- the first of what is left of rising numbers, and the rest
pub rising-head : (xs : List ℕ) (i next bound : ℕ) → i < length xs → AreRising next bound (drop i xs)
    → (next ≤ get_or xs i 0) × (get_or xs i 0 < bound) × AreRising (get_or xs i 0 + 1) bound (drop (i + 1) xs)
rising-head xs i next bound inside rises =
    let one : i + 1 ≡ suc i = omega arith in
    let parts = subst (AreRising next bound) (drop-cons xs i 0 inside) rises in
    (parts.0, parts.1, rw one parts.2)

-- a range in front of what rises above it
pub rising-range : (n a bound : ℕ) (xs : List ℕ) → AreRising (a + n) bound xs → a + n ≤ bound
    → AreRising a bound (range_with_len a n ++ xs)
rising-range zero a bound xs rises h = let none : a + 0 ≡ a = omega arith in rw none at rises
rising-range (suc n) a bound xs rises h =
    let next : a + suc n ≡ (a + 1) + n = omega arith in
    (omega arith, omega arith, rising-range n (a + 1) bound xs (rw next at rises) (omega arith))

-- the least of rising numbers may be any lower number
pub rising-lower : (least less bound : ℕ) (xs : List ℕ) → less ≤ least → AreRising least bound xs
    → AreRising less bound xs
rising-lower least less bound [] h rises = tt
rising-lower least less bound (x ∷ xs) h rises = (omega arith, rises.1, rises.2)

-- numbers of which each is below the next rise, by cases on the list
pub rising-from : (xs : List ℕ) (least bound : ℕ) → IsStrictlyIncreasing xs
    → (0 < length xs → least ≤ get_or xs 0 0) → All (λ x. x < bound) xs → AreRising least bound xs
rising-from [] least bound rises low below = tt
rising-from (x ∷ xs) least bound rises low below = (
  low (omega arith),
  All-head (λ y. y < bound) x xs below,
  rising-from xs (x + 1) bound
      (λ k h. let next : suc k + 1 ≡ suc (k + 1) = omega arith in rw next at (rises (suc k) (omega arith)))
      (λ some. let first = rises 0 (omega arith) in omega arith)
      (All-tail (λ y. y < bound) x xs below),
)

-- a filter of a range rises
pub filter-rising : (p : ℕ → Bool) (n a bound : ℕ) → a + n ≤ bound
    → AreRising a bound (filter p (range_with_len a n))
filter-rising p zero a bound h = tt
filter-rising p (suc n) a bound h =
    let rest = filter-rising p n (a + 1) bound (omega arith) in
    elim (cases_Bool (p a)) [
      | inl passes ↦ rw passes (omega arith, omega arith, rest)
      | inr fails ↦ rw fails (rising-lower (a + 1) a bound (filter p (range_with_len (a + 1) n)) (omega arith) rest)
    ]

-- What follows of placed pieces.
--
-- The key idea: the least piece that is not placed is found by going on from one below which all are marked. And
-- where
-- every piece is placed, a pair is one of a placed piece exactly where it is one of any piece.
use Rattle.std.proofs.Common.{◌≡◌, ℕ, zero, suc, ◌+◌, ◌<◌, ◌≤◌, ◌≢◌, Bool, true}
use Rattle.std.proofs.Common.{false, not, inl, inr, ◌&&◌, ◌||◌, ◌==◌, List, [], ◌∷◌}
use Rattle.std.proofs.Common.{length, get_or, set, refl, sym, ap, ◌∙◌, arith, true≢false}
use Rattle.std.proofs.Common.{eqb-true, eq-eqb, Some}
use Rattle.std.proofs.Common.{None}
use mathlib.Core.Path.{fun_ext}
use Rattle.std.proofs.lemmas.Bool.{or_cases, or_left, or_right, cases_Bool, false_from_ne_true}
use Rattle.std.proofs.lemmas.List.Folds.{list_any-append}
use Rattle.std.specs.List.{list_any, find, flat_map, range_with_len}
use Rattle.sz_cells.specs.declared.Cell.{Cell}
use Rattle.sz_core.specs.declared.pairs.Pair.{Pair}
use Rattle.sz_cells.specs.Extent.{index_of}
use Rattle.sz_cells.specs.Cells.{Cells}
use Rattle.sz_spec.specs.declared.modes.Dir.{Dir}
use Rattle.sz_spec.specs.declared.modes.Dir.TheVariants.{Back, Forward}
use Rattle.sz_spec.specs.Lineage.{back, forward}
use Rattle.sz_spec.specs.Values.{extent_at}
use Rattle.sz_core.specs.Images.{image_by}
use Rattle.sz_core.specs.Invariants.{AreAllPlaced}
use Rattle.sz_core.specs.States.{Shelf, is_placed, missing_piece, piece_pairs, placed_pairs}
use Rattle.sz_core.specs.States.{whole_pairs}
use Rattle.sz_core.specs.States.{pairs_taken}

-- ---- the least piece that is not placed

-- nothing is found in a range where nothing passes
find-none : (p : ℕ → Bool) (a n : ℕ) → ((k : ℕ) → a ≤ k → k < a + n → p k ≡ false)
    → find p (range_with_len a n) ≡ None
find-none p a zero h = refl
find-none p a (suc n) h = rw (h a (omega arith) (omega arith))
    (find-none p (a + 1) n (λ k low high. h k (omega arith) (omega arith)))

-- the first number of a range that passes is found
find-first : (p : ℕ → Bool) (a n i : ℕ) → a ≤ i → i < a + n
    → ((k : ℕ) → a ≤ k → k < i → p k ≡ false) → p i ≡ true
    → find p (range_with_len a n) ≡ Some i
find-first p a zero i low high before here = absurd (omega arith)
find-first p a (suc n) i low high before here =
    elim (cases_Bool (a == i)) [
      | inl same ↦ let e : a ≡ i = eqb-true a i same in rw (e, here) refl
      | inr other ↦
          let apart : a ≢ i = λ e. absurd (true≢false (sym (eq-eqb a i e) ∙ other)) in
          rw (before a (omega arith) (omega arith))
          (find-first p (a + 1) n i (omega arith) (omega arith) (λ k l h. before k (omega arith) h) here)
    ]

-- where each piece below one is placed, and that one is not, it is the least that is missing
pub missing-some : (s : Shelf) (i : ℕ) → i < length s.pieces → ((k : ℕ) → k < i → is_placed s k ≡ true)
    → is_placed s i ≡ false
    → missing_piece s ≡ Some i
missing-some s i within below here =
    find-first (λ k. not (is_placed s k)) 0 (length s.pieces) i (omega arith) (omega arith)
    (λ k _ h. ap not (below k h)) (ap not here)

-- where each is placed, none is missing
pub missing-none : (s : Shelf) → ((k : ℕ) → k < length s.pieces → is_placed s k ≡ true)
    → missing_piece s ≡ None
missing-none s all = find-none (λ k. not (is_placed s k)) 0 (length s.pieces)
    (λ k _ h. ap not (all k (omega arith)))

-- where none is missing, each is placed
found-none : (p : ℕ → Bool) (a n k : ℕ) → find p (range_with_len a n) ≡ None → a ≤ k → k < a + n
    → p k ≡ false
found-none p a zero k none low high = absurd (omega arith)
found-none p a (suc n) k none low high =
    elim (cases_Bool (p a)) [
      | inl passes ↦ let some : find p (range_with_len a (suc n)) ≡ Some a = rw passes refl in absurd (cc)
      | inr fails ↦
          elim (cases_Bool (a == k)) [
            | inl same ↦ rw (← eqb-true a k same) fails
            | inr other ↦
                let apart : a ≢ k = λ e. absurd (true≢false (sym (eq-eqb a k e) ∙ other)) in
                found-none p (a + 1) n k (rw fails at none) (omega arith) (omega arith)
          ]
    ]

pub all-placed : (s : Shelf) → missing_piece s ≡ None → AreAllPlaced (length s.pieces) s.placed
all-placed s none k within =
    let fails = found-none (λ j. not (is_placed s j)) 0 (length s.pieces) k none (omega arith) (omega arith) in
    elim (cases_Bool (is_placed s k)) [ inl t ↦ t | inr f ↦ absurd (true≢false (sym (ap not f) ∙ fails)) ]

-- ---- the pairs that a look takes

-- some element of some list that an index names passes
any-flat : {X A : Type 0} (p : A → Bool) (f : X → List A) (xs : List X)
    → list_any p (flat_map f xs) ≡ list_any (λ x. list_any p (f x)) xs
any-flat p f [] = refl
any-flat p f (x ∷ xs) = list_any-append p (f x) (flat_map f xs)
    ∙ ap (λ b. list_any p (f x) || b) (any-flat p f xs)

-- a number in a list that passes makes the list pass
any-here : (q : ℕ → Bool) (k : ℕ) (xs : List ℕ) → list_any (λ j. j == k) xs ≡ true → q k ≡ true
    → list_any q xs ≡ true
any-here q k [] found passes = absurd (true≢false (sym found))
any-here q k (x ∷ xs) found passes =
    elim (or_cases (x == k) (list_any (λ j. j == k) xs) found) [
      | inl same ↦ or_left (q x) (list_any q xs) (ap q (eqb-true x k same) ∙ passes)
      | inr rest ↦ or_right (q x) (list_any q xs) (any-here q k xs rest passes)
    ]

-- some element of the lists passes exactly where one at some place does
any-at : {A : Type 0} (t : List A → Bool) → t [] ≡ false → (xs : List (List A)) → list_any t xs ≡ true
    → (k : ℕ) × (k < length xs) × (t (get_or xs k []) ≡ true)
any-at t none [] found = absurd (true≢false (sym found))
any-at t none (x ∷ xs) found =
    elim (or_cases (t x) (list_any t xs) found) [
      | inl here ↦ (0, omega arith, here)
      | inr rest ↦ let later = any-at t none xs rest in (suc later.0, omega (arith, later.1), later.2)
    ]

at-any : {A : Type 0} (t : List A → Bool) → t [] ≡ false → (xs : List (List A)) (k : ℕ)
    → t (get_or xs k []) ≡ true → list_any t xs ≡ true
at-any t none [] k passes = absurd (true≢false (sym passes ∙ none))
at-any t none (x ∷ xs) zero passes = or_left (t x) (list_any t xs) passes
at-any t none (x ∷ xs) (suc k) passes = or_right (t x) (list_any t xs) (at-any t none xs k passes)

any-placed : (q : ℕ → Bool) (xs : List ℕ) → list_any q xs ≡ true → (k : ℕ) × (q k ≡ true)
any-placed q [] found = absurd (true≢false (sym found))
any-placed q (x ∷ xs) found =
    elim (or_cases (q x) (list_any q xs) found) [ inl here ↦ (x, here) | inr rest ↦ any-placed q xs rest ]

-- two truth values that are true together
same_truth : (a b : Bool) → (a ≡ true → b ≡ true) → (b ≡ true → a ≡ true) → a ≡ b
same_truth a b there back =
    elim (cases_Bool a) [
      | inl t ↦ t ∙ sym (there t)
      | inr f ↦ f ∙ sym (false_from_ne_true b (λ passes. true≢false (sym (back passes) ∙ f)))
    ]

-- where each piece is placed, a test is passed by some pair of the placed pieces exactly where by some pair of all
pub placed-whole : (s : Shelf) (p : Pair → Bool) → AreAllPlaced (length s.pieces) s.placed
    → list_any p (placed_pairs s) ≡ list_any p (whole_pairs s)
placed-whole s p all =
    let t : List Pair → Bool = λ pairs. list_any p pairs in
    let q : ℕ → Bool = λ k. t (piece_pairs s k) in
    any-flat p (piece_pairs s) s.placed
    ∙ same_truth (list_any q s.placed) (list_any t s.pieces)
    (λ found. let one = any-placed q s.placed found in at-any t refl s.pieces one.0 one.1)
    (λ found. let one = any-at t refl s.pieces found in any-here q one.0 s.placed (all one.0 one.1) one.2)
    ∙ sym (any-flat p (λ pairs. pairs) s.pieces)

-- where a sealed shelf has every piece placed, the pairs that a look takes say what all pairs say
pub taken-whole : (s : Shelf) (p : Pair → Bool) → (s.sealed ≡ true → AreAllPlaced (length s.pieces) s.placed)
    → list_any p (pairs_taken s) ≡ list_any p (whole_pairs s)
taken-whole s p whole =
    elim (cases_Bool s.sealed) [ inl t ↦ rw t (placed-whole s p (whole t)) | inr f ↦ rw f refl ]

-- so the image by them is the image by all pairs
pub taken-image : (s : Shelf) (dir : Dir) (i : ℕ) (set : Cells)
    → (s.sealed ≡ true → AreAllPlaced (length s.pieces) s.placed)
    → image_by (pairs_taken s) dir s.out s.ins i set ≡ image_by (whole_pairs s) dir s.out s.ins i set
taken-image s Back i set whole =
    let e = extent_at s.ins i in
    let make : (Cell → Cell → Bool) → Cells = λ r. back r e set in
    ap make (fun_ext (λ o. fun_ext (λ x.
    taken-whole s (λ p. (p.out == index_of s.out o) && ((p.input == i) && (p.cell == index_of e x))) whole)))
taken-image s Forward i set whole =
    let e = extent_at s.ins i in
    let make : (Cell → Cell → Bool) → Cells = λ r. forward r s.out set in
    ap make (fun_ext (λ o. fun_ext (λ x.
    taken-whole s (λ p. (p.out == index_of s.out o) && ((p.input == i) && (p.cell == index_of e x))) whole)))

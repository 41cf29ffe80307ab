-- Runs against asked cells.
--
-- The key idea: the asked indexes rise, so the least of them at or after a run's first tells whether the run has one.
use Rattle.std.proofs.Common.{inl, inr, ◌≡◌, ℕ, zero, suc, ◌+◌, ◌<◌, ◌≤◌, ◌==◌}
use Rattle.std.proofs.Common.{Bool, true, false, ◌||◌, nat_le, List, [], ◌∷◌, Some, None}
use Rattle.std.proofs.Common.{length, take, get_or, refl, sym, ap, ap₂, subst, ◌∙◌, arith, le-leb}
use Rattle.std.specs.List.{find, list_any}
use Rattle.std.proofs.lemmas.Bool.{cases_Bool, lt-leb, leb-false, or_cases, or_left, or_right}
use Rattle.std.proofs.lemmas.List.Folds.{list_any_more}
use Rattle.std.proofs.lemmas.Option.{same_Some}
use Rattle.sz_cells.specs.declared.Run.{Run}
use Rattle.sz_cells.specs.Extent.{Extent, size_of, cell_of}
use Rattle.sz_cells.specs.Cells.{Cells, any_cell, has, union_of}
use Rattle.sz_cells.specs.Rising.{AreRising}
use Rattle.sz_cells.specs.Runs.{AreRunsFrom, runs_of, is_in, covers, Spells}
use Rattle.sz_cells.specs.SetBytes.{IsSetOf}
use Rattle.sz_cells.specs.Words.{cells_at}
use Rattle.sz_cells.proofs.Sets.{has-index}
use Rattle.sz_cells.proofs.Runs.{any-covers, runs_of-longest, spelled-runs_of}
use Rattle.sz_cells.proofs.Bitmaps.{spelled-at, view-at}

-- ---- the least asked index

-- where the least index at or after a number is at or after a greater one, it is the least there too
pub next-later : (lower start i : ℕ) (xs : List ℕ) → lower ≤ start → start ≤ i → find (nat_le lower) xs ≡ Some i
    → find (nat_le start) xs ≡ Some i
next-later lower start i [] order high found = cc
next-later lower start i (x ∷ xs) order high found =
    elim (cases_Bool (nat_le lower x)) [
      | inl passes ↦
          let same : x ≡ i = same_Some x i (rw passes at found) in
          rw (le-leb start x (omega arith)) (ap (λ (y : ℕ). Some y) same)
      | inr fails ↦
          let under = leb-false lower x fails in
          rw (lt-leb start x (omega arith)) (next-later lower start i xs order high (rw fails at found))
    ]

pub none-later : (lower start : ℕ) (xs : List ℕ) → lower ≤ start → find (nat_le lower) xs ≡ None
    → find (nat_le start) xs ≡ None
none-later lower start [] order found = refl
none-later lower start (x ∷ xs) order found =
    elim (cases_Bool (nat_le lower x)) [
      | inl passes ↦ let never : Some x ≡ None = rw passes at found in cc
      | inr fails ↦
          let under = leb-false lower x fails in
          rw (lt-leb start x (omega arith)) (none-later lower start xs order (rw fails at found))
    ]

-- indexes that begin above a run are not in it
in-none : (r : Run) (least bound : ℕ) (xs : List ℕ) → AreRising least bound xs → r.last < least
    → list_any (is_in r) xs ≡ false
in-none r least bound [] rises past = refl
in-none r least bound (x ∷ xs) rises past =
    rw (lt-leb x r.last (omega arith), in-none r (x + 1) bound xs rises.2 (omega arith)) (elim (cases_Bool
    (nat_le r.first x)) [ inl t ↦ rw t refl | inr f ↦ rw f refl ])

-- a run has one of rising indexes where the least at or after its first is not above its last
pub next-in : (r : Run) (i least bound : ℕ) (xs : List ℕ) → AreRising least bound xs
    → find (nat_le r.first) xs ≡ Some i → nat_le i r.last ≡ list_any (is_in r) xs
next-in r i least bound [] rises found = cc
next-in r i least bound (x ∷ xs) rises found =
    elim (cases_Bool (nat_le r.first x)) [
      | inl passes ↦
          let same : x ≡ i = same_Some x i (rw passes at found) in
          ap (λ (y : ℕ). nat_le y r.last) (sym same)
          ∙ (rw passes (elim (cases_Bool (nat_le x r.last)) [
            | inl inside ↦ rw inside refl
            | inr past ↦
                let over = leb-false x r.last past in
                rw past (sym (in-none r (x + 1) bound xs rises.2 (omega arith)))
          ]))
      | inr fails ↦ rw fails (next-in r i (x + 1) bound xs rises.2 (rw fails at found))
    ]

-- where there is none at or after its first, it has none
pub none-in : (r : Run) (xs : List ℕ) → find (nat_le r.first) xs ≡ None → false ≡ list_any (is_in r) xs
none-in r [] found = refl
none-in r (x ∷ xs) found =
    elim (cases_Bool (nat_le r.first x)) [
      | inl passes ↦ let never : Some x ≡ None = rw passes at found in cc
      | inr fails ↦ rw fails (none-in r xs (rw fails at found))
    ]

-- ---- runs so far

-- one test or another
pub any-or : {X : Type 0} (p q : X → Bool) (xs : List X) → list_any (λ x. p x || q x) xs
    ≡ (list_any p xs || list_any q xs)
any-or p q [] = refl
any-or p q (x ∷ xs) =
    ap (λ b. (p x || q x) || b) (any-or p q xs)
    ∙ (elim (cases_Bool (p x)) [
      | inl t ↦ rw t refl
      | inr f ↦
          rw f (elim (cases_Bool (q x)) [
            | inl u ↦ rw u (elim (cases_Bool (list_any p xs)) [ inl a ↦ rw a refl | inr b ↦ rw b refl ])
            | inr v ↦ rw v refl
          ])
    ])

-- two tests that agree everywhere find alike
pub any-ext : {X : Type 0} (p q : X → Bool) → ((x : X) → p x ≡ q x) → (xs : List X) → list_any p xs
    ≡ list_any q xs
any-ext p q same [] = refl
any-ext p q same (x ∷ xs) = ap₂ (λ (a b : Bool). a || b) (same x) (any-ext p q same xs)

-- no test finds nothing
any-never : {X : Type 0} (xs : List X) → list_any (λ x. false) xs ≡ false
any-never [] = refl
any-never (x ∷ xs) = any-never xs

pub unmet-none : (xs : List ℕ) → list_any (covers []) xs ≡ false
unmet-none xs = any-never xs

-- where one test is passed and tells the other, the other is passed
any-onward : {X : Type 0} (p q : X → Bool) → ((x : X) → p x ≡ true → q x ≡ true) → (xs : List X)
    → list_any p xs ≡ true → list_any q xs ≡ true
any-onward p q onward [] found = found
any-onward p q onward (x ∷ xs) found =
    elim (or_cases (p x) (list_any p xs) found) [
      | inl here ↦ or_left (q x) (list_any q xs) (onward x here)
      | inr rest ↦ or_right (q x) (list_any q xs) (any-onward p q onward xs rest)
    ]

-- one run more that has no asked index
pub unmet-more : (runs : List Run) (i : ℕ) (d : Run) (xs : List ℕ) → i < length runs
    → list_any (covers (take i runs)) xs ≡ false → list_any (is_in (get_or runs i d)) xs ≡ false
    → list_any (covers (take (i + 1) runs)) xs ≡ false
unmet-more runs i d xs inside before here =
    any-ext (covers (take (i + 1) runs)) (λ k. covers (take i runs) k || is_in (get_or runs i d) k)
    (λ k. list_any_more (λ x. is_in x k) runs i d inside) xs
    ∙ any-or (covers (take i runs)) (is_in (get_or runs i d)) xs
    ∙ (rw (before, here) refl)

-- a run of them that has an asked index
covers-one : (runs : List Run) (i : ℕ) (d : Run) (k : ℕ) → i < length runs → is_in (get_or runs i d) k ≡ true
    → covers runs k ≡ true
covers-one [] i d k inside here = absurd (omega arith)
covers-one (r ∷ runs) zero d k inside here = or_left (is_in r k) (covers runs k) here
covers-one (r ∷ runs) (suc i) d k inside here = or_right (is_in r k) (covers runs k)
    (covers-one runs i d k (omega arith) here)

pub met-one : (runs : List Run) (i : ℕ) (d : Run) (xs : List ℕ) → i < length runs
    → list_any (is_in (get_or runs i d)) xs ≡ true → list_any (covers runs) xs ≡ true
met-one runs i d xs inside here = any-onward (is_in (get_or runs i d)) (covers runs)
    (λ k t. covers-one runs i d k inside t) xs here

-- ---- the runs of a set

-- tests that agree below a bound find alike among rising numbers
pub any-rising : (p q : ℕ → Bool) (least bound : ℕ) (xs : List ℕ) → AreRising least bound xs
    → ((k : ℕ) → k < bound → p k ≡ q k) → list_any p xs ≡ list_any q xs
any-rising p q least bound [] rises same = refl
any-rising p q least bound (x ∷ xs) rises same = ap₂ (λ (a b : Bool). a || b) (same x rises.1)
    (any-rising p q (x + 1) bound xs rises.2 same)

-- the longest runs of a set's indexes spell it
pub set-spelled : (e : Extent) (set : Cells) → IsSetOf e set → Spells (runs_of set.indexes) set
set-spelled e set is =
    let rises : AreRising 0 (size_of set.extent) set.indexes =
    subst (λ (f : Extent). AreRising 0 (size_of f) set.indexes) (sym is.extent) is.rising in
    record {
      longest = runs_of-longest 0 (size_of set.extent) set.indexes rises;
      spelled = spelled-runs_of 0 (size_of set.extent) set.indexes rises;
    }

pub runs-fit : (e f : Extent) (set : Cells) (runs : List Run) → IsSetOf e set → f ≡ e
    → runs ≡ runs_of set.indexes → AreRunsFrom 0 (size_of f) runs
runs-fit e f set runs is same at =
    subst (λ (g : Extent). AreRunsFrom 0 (size_of g) runs) (sym same)
    (rw at (runs_of-longest 0 (size_of e) set.indexes is.rising))

-- what its runs add is the set
pub runs-added : (e : Extent) (set to new : Cells) (runs : List Run) → IsSetOf e set → to.extent ≡ e
    → runs ≡ runs_of set.indexes → new ≡ union_of to (cells_at to.extent (covers runs)) → new ≡ union_of to set
runs-added e set to new runs is same at added =
    added
    ∙ ap (union_of to)
    (view-at set.extent (covers runs) set (spelled-at runs set (rw at (set-spelled e set is))) to.extent
    (is.extent ∙ sym same))

-- its runs have an asked index where the set has an asked cell
pub runs-met : (e : Extent) (set from : Cells) (runs : List Run) → IsSetOf e set → from.extent ≡ e
    → AreRising 0 (size_of from.extent) from.indexes
    → runs ≡ runs_of set.indexes → list_any (covers runs) from.indexes ≡ any_cell (has set) from
runs-met e set from runs is same rises at =
    let whole : set.extent ≡ from.extent = is.extent ∙ sym same in
    let spells = set-spelled e set is in
    any-rising (covers runs) (λ k. has set (cell_of from.extent k)) 0 (size_of from.extent) from.indexes rises
    (λ k below.
    ap (λ (rs : List Run). covers rs k) at
    ∙ sym (any-covers 0 (size_of set.extent) k (runs_of set.indexes) spells.longest)
    ∙ ap (list_any (λ x. x == k)) spells.spelled
    ∙ sym (has-index set from.extent k whole below))

-- Whether a set has a cell that passes a test, and what is found in a list.
--
-- The key idea: a set is looked through cell by cell, so what holds of tests at each cell holds of the sets.
use Rattle.std.proofs.Common.{◌≡◌, ℕ, Bool, true, false, true≢false, ◌||◌, ◌==◌, List, [], ◌∷◌, map}
use Rattle.std.proofs.Common.{refl, sym, ap, ap₂, ◌∙◌, arith, inl, inr}
use Rattle.std.specs.List.{list_any}
use Rattle.std.proofs.Math.Bool.{or-true}
use Rattle.std.proofs.lemmas.Bool.{cases_Bool}
use Rattle.std.proofs.lemmas.Bool.Decides.{nat_tests}
use Rattle.sz_cells.specs.declared.Cell.{Cell}
use Rattle.sz_cells.specs.Extent.{cell_of}
use Rattle.sz_cells.specs.Cells.{Cells, any_cell}

-- ---- numbers and lists

pub eq-flip : (a b : ℕ) → (a == b) ≡ (b == a)
eq-flip a b = grind (arith, nat_tests)

-- what is found among what f makes
pub any-map : {X Y : Type 0} (p : Y → Bool) (f : X → Y) (xs : List X)
    → list_any p (map f xs) ≡ list_any (λ x. p (f x)) xs
any-map p f [] = refl
any-map p f (x ∷ xs) = ap (λ b. p (f x) || b) (any-map p f xs)

-- tests that agree find alike
pub any-ext : {X : Type 0} (p q : X → Bool) → ((x : X) → p x ≡ q x) → (xs : List X) → list_any p xs ≡ list_any q xs
any-ext p q same [] = refl
any-ext p q same (x ∷ xs) = ap₂ (λ (a b : Bool). a || b) (same x) (any-ext p q same xs)

any-none : {X : Type 0} (p : X → Bool) → ((x : X) → p x ≡ false) → (xs : List X) → list_any p xs ≡ false
any-none p none [] = refl
any-none p none (x ∷ xs) = ap₂ (λ (a b : Bool). a || b) (none x) (any-none p none xs)

or-turned : (a b c d : Bool) → ((a || b) || (c || d)) ≡ ((a || c) || (b || d))
or-turned true b c d = refl
or-turned false true true d = refl
or-turned false false true d = refl
or-turned false true false d = refl
or-turned false false false d = refl

any-or : {X : Type 0} (p q r : X → Bool) → ((x : X) → (p x || q x) ≡ r x) → (xs : List X)
    → (list_any p xs || list_any q xs) ≡ list_any r xs
any-or p q r same [] = refl
any-or p q r same (x ∷ xs) =
    or-turned (p x) (list_any p xs) (q x) (list_any q xs)
    ∙ ap₂ (λ (a b : Bool). a || b) (same x) (any-or p q r same xs)

any-wider : {X : Type 0} (p q : X → Bool) → ((x : X) → p x ≡ true → q x ≡ true) → (xs : List X)
    → list_any p xs ≡ true → list_any q xs ≡ true
any-wider p q wider [] met = absurd (true≢false (sym met))
any-wider p q wider (x ∷ xs) met =
    elim (cases_Bool (p x)) [
      | inl t ↦ rw (wider x t) refl
      | inr f ↦ rw (any-wider p q wider xs (rw f at met)) (or-true (q x))
    ]

-- ---- sets

-- what passes no test is not met
pub met-none : (set : Cells) (p : Cell → Bool) → ((c : Cell) → p c ≡ false) → any_cell p set ≡ false
met-none set p none =
    any-none (λ k. p (cell_of set.extent k)) (λ k. none (cell_of set.extent k)) set.indexes

-- tests that agree are met alike
pub met-ext : (set : Cells) (p q : Cell → Bool) → ((c : Cell) → p c ≡ q c) → any_cell p set ≡ any_cell q set
met-ext set p q same =
    any-ext (λ k. p (cell_of set.extent k)) (λ k. q (cell_of set.extent k)) (λ k. same (cell_of set.extent k))
    set.indexes

-- of two tests one is met exactly where what passes one of them is
pub met-or : (set : Cells) (p q r : Cell → Bool) → ((c : Cell) → (p c || q c) ≡ r c)
    → (any_cell p set || any_cell q set) ≡ any_cell r set
met-or set p q r same =
    any-or (λ k. p (cell_of set.extent k)) (λ k. q (cell_of set.extent k)) (λ k. r (cell_of set.extent k))
    (λ k. same (cell_of set.extent k)) set.indexes

-- where a part is met, the whole is
pub met-wider : (set : Cells) (p q : Cell → Bool) → ((c : Cell) → p c ≡ true → q c ≡ true) → any_cell p set ≡ true
    → any_cell q set ≡ true
met-wider set p q wider met =
    any-wider (λ k. p (cell_of set.extent k)) (λ k. q (cell_of set.extent k)) (λ k. wider (cell_of set.extent k))
    set.indexes met

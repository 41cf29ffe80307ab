-- Rows of numbers that name cells, and of operators of which each output cell is related to some cell of an input.
--
-- The key idea: on numbers, sets and kernels that are written out every definition is a computation. Expected values
-- by hand.
use Rattle.std.proofs.Common.{◌≡◌, ◌==◌, ◌||◌, pos, negsuc, true, false, Some, None, [], ◌∷◌, map, refl}
use Rattle.std.proofs.Common.{arith, true≢false, eqb-true, inl, inr, sym}
use Rattle.std.proofs.lemmas.Bool.{or_cases}
use Rattle.sz_cells.specs.Cells.{Cells}
use Rattle.sz_cells.specs.Extent.{flat}
use Rattle.sz_spec.specs.declared.op.Op.TheVariants as op
use Rattle.sz_spec.specs.declared.op.Fold.TheVariants as fold
use Rattle.sz_spec.specs.Weights.{Weights}
use Rattle.sz_spec.proofs.RowsArrays.{n, none, grid, kernel, at}
use Rattle.sz_refresh.specs.Names.{index_above, named, is_at, has_named, is_named, LieWithin, first_of}
use Rattle.sz_refresh.specs.Whole.{middle_of, has_middle, reaches_all}

-- counted from 1, of three cells 1 to 3 name the first to the last, and 0, 4 and -1 name none
pub counted-from_one : map (index_above 1 3) (pos 1 ∷ pos 3 ∷ pos 0 ∷ pos 4 ∷ negsuc 0 ∷ [])
    ≡ Some 0 ∷ Some 2 ∷ None ∷ None ∷ None ∷ []
counted-from_one = refl

-- counted from 0, they are 0 to 2
pub counted-from_zero : map (index_above 0 3) (pos 0 ∷ pos 2 ∷ pos 3 ∷ []) ≡ Some 0 ∷ Some 2 ∷ None ∷ []
counted-from_zero = refl

-- a number names its cell, and nothing names none
pub names-its_cell : map (named 1 3) (n 2 ∷ none ∷ []) ≡ Some 1 ∷ None ∷ []
names-its_cell = refl

-- an index is at itself, and nowhere where there is none
pub at-itself : is_at (Some 2) 2 ≡ true
at-itself = refl

pub at-another : is_at (Some 2) 1 ≡ false
at-another = refl

pub at-none : is_at None 0 ≡ false
at-none = refl

-- the second and the third of four cells in a row
abbrev two : Cells
two = at (flat 1 4) (1 ∷ 2 ∷ [])

-- counted from 1, they are named by 2 and 3 alone
pub named-alone : map (λ v. has_named 1 v two) (n 2 ∷ n 3 ∷ n 1 ∷ n 4 ∷ none ∷ [])
    ≡ true ∷ true ∷ false ∷ false ∷ false ∷ []
named-alone = refl

-- a place names a cell by the old value or by the new one, of the set of each
pub either-old : is_named 1 (n 2 ∷ n 0 ∷ []) two (n 0 ∷ n 0 ∷ []) two 0 ≡ true
either-old = refl

pub either-new : is_named 1 (n 0 ∷ n 0 ∷ []) two (n 0 ∷ n 3 ∷ []) two 1 ≡ true
either-new = refl

pub either-none : is_named 1 (n 2 ∷ n 0 ∷ []) two (n 3 ∷ n 4 ∷ []) two 1 ≡ false
either-none = refl

pub either-by_its_own : is_named 1 (n 1 ∷ []) two (n 2 ∷ []) (at (flat 1 4) (0 ∷ [])) 0 ≡ false
either-by_its_own = refl

-- the two lie from 1 to 2, and not from 2 on, nor up to 1
pub within-ends : LieWithin 1 2 two
within-ends k there =
    elim (or_cases (1 == k) ((2 == k) || false) there) [
      | inl one ↦ let is = eqb-true 1 k one in (omega (arith, is), omega (arith, is))
      | inr other ↦
          elim (or_cases (2 == k) false other) [
            | inl last ↦ let is = eqb-true 2 k last in (omega (arith, is), omega (arith, is))
            | inr never ↦ absurd (true≢false (sym never))
          ]
    ]

pub beyond-least : LieWithin 2 2 two → ⊥
beyond-least h = absurd (omega (arith, (h 1 refl).0))

pub beyond-last : LieWithin 1 1 two → ⊥
beyond-last h = absurd (omega (arith, (h 2 refl).1))

-- of 0 2 2 the last cell's label names the second cell, and the first cell's none
pub first-named : first_of (grid 1 3 (n 0 ∷ n 2 ∷ n 2 ∷ [])) (record { row = 0; col = 2 })
    ≡ Some (record { row = 0; col = 1 })
first-named = refl

pub first-none : first_of (grid 1 3 (n 0 ∷ n 2 ∷ n 2 ∷ [])) (record { row = 0; col = 0 }) ≡ None
first-none = refl

-- ---- kernels and operators

-- 1 0 2 in a row
abbrev gap : Weights
gap = kernel 1 3 (pos 1 ∷ pos 0 ∷ pos 2 ∷ [])

-- 0 0 0 above 0 -1 0 above 0 0 0
abbrev dot : Weights
dot = kernel 3 3 (pos 0 ∷ pos 0 ∷ pos 0 ∷ pos 0 ∷ negsuc 0 ∷ pos 0 ∷ pos 0 ∷ pos 0 ∷ pos 0 ∷ [])

pub middle-row : middle_of gap ≡ 1
middle-row = refl

pub middle-square : middle_of dot ≡ 4
middle-square = refl

pub middle-zero : has_middle gap ≡ false
middle-zero = refl

pub middle-weight : has_middle dot ≡ true
middle-weight = refl

-- without a weight there is none in the middle
pub middle-none : has_middle (kernel 0 0 []) ≡ false
middle-none = refl

pub all-convolved : reaches_all (op.Convolve dot) 0 ≡ true
all-convolved = refl

pub all-but_gap : reaches_all (op.Convolve gap) 0 ≡ false
all-but_gap = refl

pub all-blocked : reaches_all (op.Block fold.Sum 2 2) 0 ≡ true
all-blocked = refl

pub all-layers : reaches_all (op.FoldLayers fold.Max) 0 ≡ true
all-layers = refl

pub all-turned : reaches_all op.Transpose 0 ≡ true
all-turned = refl

pub all-keys : reaches_all op.Lookup 0 ≡ true
all-keys = refl

-- a table of which no key names a cell reaches none
pub not-table : reaches_all op.Lookup 1 ≡ false
not-table = refl

-- there is no second input
pub not-second : reaches_all (op.Block fold.Sum 2 2) 1 ≡ false
not-second = refl

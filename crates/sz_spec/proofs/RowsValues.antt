-- Rows of values: which numbers are values, and what the elementwise operators make of them. Expected values by
-- hand.
--
-- The key idea: on written-out numbers every definition is a computation, so each row is its own proof.
use Rattle.std.proofs.Common.{◌≡◌, ℕ, ◌-◌, ◌^◌, ℤ, pos, negsuc, List, [], ◌∷◌, Option, Some}
use Rattle.std.proofs.Common.{None, refl}
use Rattle.sz_cells.specs.Extent.{flat}
use Rattle.sz_spec.specs.declared.op.Op.{Op}
use Rattle.sz_spec.specs.declared.op.Op.TheVariants as op
use Rattle.sz_spec.specs.Values.{Grid, fit, total}
use Rattle.sz_spec.specs.Evaluation.{output_of}
use Rattle.sz_spec.specs.Operators.Convolve.{sum_of_all}
use Rattle.sz_spec.proofs.RowsArrays.{n, minus, none, grid, at, back_of, forward_of}

-- the greatest and the least value, and the numbers beside them
pub greatest : fit (pos (2 ^ 63 - 1)) ≡ Some (pos (2 ^ 63 - 1))
greatest = refl

pub above-greatest : fit (pos (2 ^ 63)) ≡ None
above-greatest = refl

pub least : fit (negsuc (2 ^ 63 - 1)) ≡ Some (negsuc (2 ^ 63 - 1))
least = refl

pub below-least : fit (negsuc (2 ^ 63)) ≡ None
below-least = refl

-- sums are taken over whole numbers
pub total-past : total (pos (2 ^ 63 - 1) ∷ pos 1 ∷ negsuc 1 ∷ []) ≡ pos (2 ^ 63 - 2)
total-past = refl

-- a sum of values that are all there, one of which one is not, and that of none
pub sum-three : sum_of_all (n 3 ∷ minus 1 ∷ n 5 ∷ []) ≡ n 7
sum-three = refl

pub sum-empty : sum_of_all (n 3 ∷ none ∷ n 5 ∷ []) ≡ None
sum-empty = refl

pub sum-none : sum_of_all [] ≡ n 0
sum-none = refl

-- what an operator makes of a row of values, and of two rows
abbrev row : ℕ → List (Option ℤ) → Grid
row cols values = grid 1 cols values

abbrev g : Option ℤ
g = n (2 ^ 63 - 1)

abbrev l : Option ℤ
l = Some (negsuc (2 ^ 63 - 1))

pub negated : output_of op.Neg (row 5 (n 5 ∷ minus 7 ∷ none ∷ g ∷ l ∷ []) ∷ [])
    ≡ row 5 (minus 5 ∷ n 7 ∷ none ∷ minus (2 ^ 63 - 1) ∷ none ∷ [])
negated = refl

pub absolutes : output_of op.Abs (row 5 (n 5 ∷ minus 7 ∷ none ∷ g ∷ l ∷ []) ∷ [])
    ≡ row 5 (n 5 ∷ n 7 ∷ none ∷ g ∷ none ∷ [])
absolutes = refl

pub two-more : output_of (op.AddK (pos 2)) (row 5 (n 5 ∷ minus 7 ∷ none ∷ g ∷ l ∷ []) ∷ [])
    ≡ row 5 (n 7 ∷ minus 5 ∷ none ∷ none ∷ minus (2 ^ 63 - 2) ∷ [])
two-more = refl

pub one-less : output_of (op.AddK (negsuc 0)) (row 5 (n 5 ∷ minus 7 ∷ none ∷ g ∷ l ∷ []) ∷ [])
    ≡ row 5 (n 4 ∷ minus 8 ∷ none ∷ n (2 ^ 63 - 2) ∷ none ∷ [])
one-less = refl

pub twice-below : output_of (op.MulK (negsuc 1))
    (row 4 (n 5 ∷ none ∷ n (2 ^ 62) ∷ minus (2 ^ 62) ∷ []) ∷ [])
    ≡ row 4 (minus 10 ∷ none ∷ l ∷ none ∷ [])
twice-below = refl

pub clipped : output_of (op.Clip (negsuc 1) (pos 5))
    (row 7 (minus 3 ∷ minus 2 ∷ n 0 ∷ n 5 ∷ n 6 ∷ none ∷ l ∷ []) ∷ [])
    ≡ row 7 (minus 2 ∷ minus 2 ∷ n 0 ∷ n 5 ∷ n 5 ∷ none ∷ minus 2 ∷ [])
clipped = refl

-- of two inputs, where one or the other is empty, and at the ends
abbrev a : Grid
a = row 6 (n 9 ∷ minus 4 ∷ none ∷ n 1 ∷ g ∷ l ∷ [])

abbrev b : Grid
b = row 6 (n 2 ∷ n 7 ∷ n 1 ∷ none ∷ n 1 ∷ n 1 ∷ [])

pub added : output_of op.Add (a ∷ b ∷ [])
    ≡ row 6 (n 11 ∷ n 3 ∷ none ∷ none ∷ none ∷ minus (2 ^ 63 - 1) ∷ [])
added = refl

pub taken : output_of op.Sub (a ∷ b ∷ [])
    ≡ row 6 (n 7 ∷ minus 11 ∷ none ∷ none ∷ n (2 ^ 63 - 2) ∷ none ∷ [])
taken = refl

pub multiplied : output_of op.Mul (a ∷ b ∷ [])
    ≡ row 6 (n 18 ∷ minus 28 ∷ none ∷ none ∷ g ∷ l ∷ [])
multiplied = refl

pub lesser : output_of op.Min (a ∷ b ∷ []) ≡ row 6 (n 2 ∷ minus 4 ∷ none ∷ none ∷ n 1 ∷ l ∷ [])
lesser = refl

pub greater : output_of op.Max (a ∷ b ∷ []) ≡ row 6 (n 9 ∷ n 7 ∷ none ∷ none ∷ g ∷ n 1 ∷ [])
greater = refl

-- the lineage is the same cell: of the one input, or of each of the two, also where the value is empty
abbrev OwnBack : Op → List Grid → ℕ → List ℕ → Type 0
OwnBack o inputs input cells = back_of o inputs input cells ≡ at (flat 1 6) cells

abbrev OwnForward : Op → List Grid → ℕ → List ℕ → Type 0
OwnForward o inputs input cells = forward_of o inputs input cells ≡ at (flat 1 6) cells

pub own-back_of_one : OwnBack op.Neg (a ∷ []) 0 (0 ∷ 2 ∷ [])
    × OwnBack (op.AddK (pos 2)) (a ∷ []) 0 (1 ∷ [])
    × OwnBack (op.MulK (pos 0)) (a ∷ []) 0 (1 ∷ [])
    × OwnBack (op.Clip (pos 0) (pos 0)) (a ∷ []) 0 (1 ∷ [])
own-back_of_one = (refl, refl, refl, refl)

pub own-back_of_two : OwnBack op.Add (a ∷ b ∷ []) 0 (4 ∷ []) × OwnBack op.Add (a ∷ b ∷ []) 1 (4 ∷ [])
    × OwnBack op.Sub (a ∷ b ∷ []) 1 (2 ∷ [])
    × OwnBack op.Mul (a ∷ b ∷ []) 1 (2 ∷ [])
own-back_of_two = (refl, refl, refl, refl)

pub own-forward : OwnForward op.Abs (a ∷ []) 0 (5 ∷ []) × OwnForward op.Min (a ∷ b ∷ []) 1 (0 ∷ [])
    × OwnForward op.Max (a ∷ b ∷ []) 0 (1 ∷ [])
own-forward = (refl, refl, refl)

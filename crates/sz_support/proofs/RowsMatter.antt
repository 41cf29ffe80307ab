-- Rows of inputs that are changed at one cell, of cells that matter, and of cells that do not, where a law's condition
-- is not met.
--
-- The key idea: on written-out arrays every definition is a computation. Expected values by hand.
use Rattle.std.proofs.Common.{◌≡◌, ℕ, ◌^◌, ◌-◌, ℤ, pos, [], ◌∷◌, List, Option, None, refl, true}
use Rattle.std.proofs.lemmas.List.Elements.{All-cons, All-nil}
use Rattle.sz_cells.specs.declared.Cell.{Cell}
use Rattle.sz_cells.specs.Extent.{flat, is_extent}
use Rattle.sz_spec.specs.declared.op.Op.{Op}
use Rattle.sz_spec.specs.declared.op.Op.TheVariants as op
use Rattle.sz_spec.specs.declared.op.Fold.TheVariants as fold
use Rattle.sz_spec.specs.Values.{Grid}
use Rattle.sz_spec.specs.Shapes.{Site}
use Rattle.sz_spec.specs.Evaluation.{value_of}
use Rattle.sz_spec.specs.Work.{IsAtWork}
use Rattle.sz_spec.proofs.RowsArrays.{grid, stack, n, minus, none, kernel}
use Rattle.sz_support.specs.Changes.{with_value, changed_at, IsSupported, CanBeNumber, MattersByNumber}
use Rattle.sz_support.proofs.MatterConvolve.{convolved-matter}

abbrev cell : ℕ → ℕ → Cell
cell r c = record { row = r; col = c }

-- ---- changed inputs

pub changed : with_value (grid 2 3 (n 1 ∷ n 2 ∷ n 3 ∷ none ∷ n 5 ∷ n 6 ∷ [])) (cell 1 0) (n 4)
    ≡ grid 2 3 (n 1 ∷ n 2 ∷ n 3 ∷ n 4 ∷ n 5 ∷ n 6 ∷ [])
changed = refl

pub emptied : with_value (stack 2 1 2 (n 1 ∷ n 2 ∷ n 3 ∷ n 4 ∷ [])) (cell 1 1) none
    ≡ stack 2 1 2 (n 1 ∷ n 2 ∷ n 3 ∷ none ∷ [])
emptied = refl

pub changed-second : changed_at (grid 1 2 (n 1 ∷ n 2 ∷ []) ∷ grid 1 2 (n 3 ∷ n 4 ∷ []) ∷ []) 1 (cell 0 0) (n 7)
    ≡ grid 1 2 (n 1 ∷ n 2 ∷ []) ∷ grid 1 2 (n 7 ∷ n 4 ∷ []) ∷ []
changed-second = refl

-- ---- where a condition is not met no number matters

-- what an operator makes of two cells in its first cell, and of one cell of each of two arrays
abbrev of_row : Op → Option ℤ → Option ℤ → Option ℤ
of_row o v w = value_of o (grid 1 2 (v ∷ w ∷ []) ∷ []) (cell 0 0)

abbrev of_two : Op → Option ℤ → Option ℤ → Option ℤ
of_two o v w = value_of o (grid 1 1 (v ∷ []) ∷ grid 1 1 (w ∷ []) ∷ []) (cell 0 0)

-- a product by the constant 0, and a clip to one number; but by being empty
pub by-zero : of_row (op.MulK (pos 0)) (n 1) none ≡ of_row (op.MulK (pos 0)) (minus 5) none
by-zero = refl

pub by-zero_empty : of_row (op.MulK (pos 0)) none none ≡ None
by-zero_empty = refl

pub by-zero_there : of_row (op.MulK (pos 0)) (n 1) none ≡ n 0
by-zero_there = refl

pub clipped-one : of_row (op.Clip (pos 5) (pos 5)) (n 1) none ≡ of_row (op.Clip (pos 5) (pos 5)) (n 9) none
clipped-one = refl

-- beside an empty operand, or beside 0
pub beside-empty : of_two op.Add (n 1) none ≡ of_two op.Add (n 2) none
beside-empty = refl

pub beside-zero : of_two op.Mul (n 1) (n 0) ≡ of_two op.Mul (n 2) (n 0)
beside-zero = refl

pub beside-number : of_two op.Mul (n 2) (n 3) ≡ n 6
beside-number = refl

-- the lesser of two beside the least i64
pub beside-least : of_two op.Min (n 1) (minus (2 ^ 63)) ≡ of_two op.Min (minus 7) (minus (2 ^ 63))
beside-least = refl

-- under a kernel beside an empty cell that has a weight; one that has none is no matter
pub under-empty : of_row (op.Convolve (kernel 1 3 (pos 0 ∷ pos 2 ∷ pos 1 ∷ []))) (n 1) none
    ≡ of_row (op.Convolve (kernel 1 3 (pos 0 ∷ pos 2 ∷ pos 1 ∷ []))) (n 2) none
under-empty = refl

pub under-none : of_row (op.Convolve (kernel 1 3 (pos 1 ∷ pos 2 ∷ pos 0 ∷ []))) (n 3) none ≡ n 6
under-none = refl

-- in a sum that no i64 brings back to one
pub over : value_of (op.Block fold.Sum 1 3)
    (grid 1 3 (n (2 ^ 63 - 1) ∷ n (2 ^ 63 - 1) ∷ minus (2 ^ 63 - 1) ∷ []) ∷ []) (cell 0 0) ≡ n (2 ^ 63 - 1)
over = refl

pub over-all : value_of (op.Block fold.Sum 1 4)
    (grid 1 4 (n (2 ^ 63 - 1) ∷ n (2 ^ 63 - 1) ∷ n (2 ^ 63 - 1) ∷ minus (2 ^ 63) ∷ []) ∷ []) (cell 0 0) ≡ None
over-all = refl

-- a count of an empty cell, and of a number
pub counted-empty : of_row (op.Block fold.Count 1 2) none (n 4) ≡ n 1
counted-empty = refl

pub counted-number : of_row (op.Block fold.Count 1 2) (n 0) (n 4) ≡ n 2
counted-number = refl

-- a lookup by one name or another, where the table holds one number; by no name
abbrev looked : Option ℤ → Option ℤ
looked v = value_of op.Lookup (grid 1 1 (v ∷ []) ∷ grid 1 2 (n 7 ∷ n 7 ∷ []) ∷ []) (cell 0 0)

pub looked-alike : looked (n 0) ≡ looked (n 1)
looked-alike = refl

pub looked-there : looked (n 1) ≡ n 7
looked-there = refl

pub looked-nowhere : looked none ≡ None
looked-nowhere = refl

-- ---- regions: a cell inside supports the first one, and does not matter to it, whatever it holds

abbrev full : Option ℤ → Grid
full v = grid 3 3 (n 9 ∷ n 9 ∷ n 9 ∷ n 9 ∷ v ∷ n 9 ∷ n 9 ∷ n 9 ∷ n 9 ∷ [])

pub within-high : value_of (op.Regions (pos 5)) (full (n 9) ∷ []) (cell 2 2) ≡ n 1
within-high = refl

pub within-low : value_of (op.Regions (pos 5)) (full (n 0) ∷ []) (cell 2 2) ≡ n 1
within-low = refl

pub within-empty : value_of (op.Regions (pos 5)) (full none ∷ []) (cell 2 2) ≡ n 1
within-empty = refl

-- ---- a cell that matters: the first of three under a kernel without its middle weight

abbrev edges : Op
edges = op.Convolve (kernel 1 3 (pos 2 ∷ pos 0 ∷ pos 1 ∷ []))

abbrev at_edges : Site
at_edges = record { op = edges; ins = flat 1 3 ∷ []; out = flat 1 3 }

abbrev three : List Grid
three = grid 1 3 (n 1 ∷ none ∷ n 3 ∷ []) ∷ []

pub working : IsAtWork at_edges three
working = record {
  site = record { arity = refl; parameters = refl; shape = refl };
  shapes = refl;
  right = All-cons (λ e. is_extent e ≡ true) (flat 1 3) [] refl (All-nil (λ e. is_extent e ≡ true));
}

pub supported : IsSupported at_edges three 0 (cell 0 1) (cell 0 0)
supported = record { work = working; held = refl; there = refl; supports = refl }

pub can : CanBeNumber at_edges three 0 (cell 0 1) (cell 0 0)
can = (pos 4, refl, pos 11, refl)

pub matters : MattersByNumber at_edges three 0 (cell 0 1) (cell 0 0)
matters = convolved-matter (kernel 1 3 (pos 2 ∷ pos 0 ∷ pos 1 ∷ [])) at_edges three 0 (cell 0 1) (cell 0 0) refl
    supported can

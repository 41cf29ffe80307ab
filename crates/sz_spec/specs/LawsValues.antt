-- What a reader may take for granted of values, sums and outputs. Each law is proved of the
-- definitions.
use Rattle.std.specs.Prelude.{◌≡◌, ◌^◌, ℤ, pos, neg_ℤ, ◌≤ℤ◌, ◌<ℤ◌, List, ◌∷◌}
use Rattle.std.specs.Prelude.{◌++◌, map, length, true}
use Rattle.std.specs.Prelude.{Option, Some, None}
use Rattle.sz_cells.specs.declared.Cell.{Cell}
use Rattle.sz_cells.specs.Extent.{size_of, holds}
use Rattle.sz_spec.specs.declared.op.Op.{Op}
use Rattle.sz_spec.specs.Values.{Grid, fit, total, value_at}
use Rattle.sz_spec.specs.Operators.Convolve.{sum_of_all}
use Rattle.sz_spec.specs.Evaluation.{value_of, output_of}

-- a whole number from -2^63 to 2^63 - 1 is a value
abbrev pub I64sAreValues : Type 0
I64sAreValues = (z : ℤ) → neg_ℤ (pos (2 ^ 63)) ≤ℤ z → z <ℤ pos (2 ^ 63) → fit z ≡ Some z

-- any other whole number is empty
abbrev pub OtherNumbersAreEmpty : Type 0
OtherNumbersAreEmpty = (z : ℤ)
    → ((neg_ℤ (pos (2 ^ 63)) ≤ℤ z) × (z <ℤ pos (2 ^ 63)) → ⊥) → fit z ≡ None

-- of values that are all there, the sum is that of the numbers
abbrev pub SumsOfNumbersAreTotals : Type 0
SumsOfNumbersAreTotals = (zs : List ℤ) → sum_of_all (map (λ z. Some z) zs) ≡ Some (total zs)

-- where one is not there, there is no sum
abbrev pub SumsWithAnEmptyOneAreEmpty : Type 0
SumsWithAnEmptyOneAreEmpty = (before after : List (Option ℤ))
    → sum_of_all (before ++ None ∷ after) ≡ None

-- an operator's output has as many values as its shape has cells
abbrev pub OutputsHaveAValueForEachCell : Type 0
OutputsHaveAValueForEachCell = (op : Op) (inputs : List Grid)
    → length (output_of op inputs).values ≡ size_of (output_of op inputs).extent

-- what an operator's output holds at a cell is the operator's value there
abbrev pub OutputsHoldTheirValues : Type 0
OutputsHoldTheirValues = (op : Op) (inputs : List Grid) (c : Cell)
    → holds (output_of op inputs).extent c ≡ true
    → value_at (output_of op inputs) c ≡ value_of op inputs c

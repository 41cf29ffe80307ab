-- What follows of values, sums and operators' outputs.
--
-- The key idea: the test that a number is an i64 is a comparison with 2^63 on each side of zero. An output is a
-- map over the indexes 0, 1, 2, .. of its shape, so what it holds at a cell's index is the value of the cell of
-- that index, which is the cell.
use Rattle.std.proofs.Common.{◌≡◌, ◌^◌, ℤ, pos, negsuc, ◌+ℤ◌, true, inl, inr, nat_lt, List, []}
use Rattle.std.proofs.Common.{◌∷◌}
use Rattle.std.proofs.Common.{fold, Some, None, refl, ap, ◌∙◌, arith, zero-add}
use Rattle.std.proofs.lemmas.Bool.{cases_Bool}
use Rattle.std.proofs.lemmas.Bool.Decides.{nat_tests}
use Rattle.std.proofs.lemmas.Int.{ints}
use Rattle.std.proofs.lemmas.List.FromFn.{length-map-range_with_len, get_or-map-range_with_len}
use Rattle.std.proofs.lemmas.Option.{unwrap_or-slice_get}
use Rattle.sz_cells.specs.Extent.{size_of, index_of, cell_of}
use Rattle.sz_cells.proofs.Sets.{index-below, cell-index}
use Rattle.sz_spec.specs.Values.{extents_of, total, with_numbers}
use Rattle.sz_spec.specs.Shapes.{output_extent}
use Rattle.sz_spec.specs.Evaluation.{value_of, output_of}
use Rattle.sz_spec.specs.LawsValues.{I64sAreValues, OtherNumbersAreEmpty, SumsOfNumbersAreTotals}
use Rattle.sz_spec.specs.LawsValues.{SumsWithAnEmptyOneAreEmpty, OutputsHaveAValueForEachCell}
use Rattle.sz_spec.specs.LawsValues.{OutputsHoldTheirValues}

-- an i64 is a value
pub fit-value : I64sAreValues
fit-value (pos n) low high = let below : nat_lt n (2 ^ 63) ≡ true = grind (arith, nat_tests, ints) in
    rw below refl
fit-value (negsuc n) low high = let below : nat_lt n (2 ^ 63) ≡ true = grind (arith, nat_tests, ints) in
    rw below refl

-- any other whole number is empty
pub fit-empty : OtherNumbersAreEmpty
fit-empty (pos n) outside =
    elim (cases_Bool (nat_lt n (2 ^ 63))) [
      | inl t ↦ absurd (outside (omega (arith, ints), grind (arith, nat_tests, ints)))
      | inr f ↦ rw f refl
    ]
fit-empty (negsuc n) outside =
    elim (cases_Bool (nat_lt n (2 ^ 63))) [
      | inl t ↦ absurd (outside (grind (arith, nat_tests, ints), omega (arith, ints)))
      | inr f ↦ rw f refl
    ]

-- a total taken from a number on
pub total-from : (a : ℤ) (zs : List ℤ) → fold (λ b z. b +ℤ z) a zs ≡ a +ℤ total zs
total-from a [] = omega (arith, ints)
total-from a (z ∷ zs) =
    let rest = total-from (a +ℤ z) zs in
    let first = total-from (pos 0 +ℤ z) zs in
    omega (arith, ints)

-- the sum of numbers that are all there
pub sum-total : SumsOfNumbersAreTotals
sum-total [] = refl
sum-total (z ∷ zs) =
    let first : z +ℤ total zs ≡ total (z ∷ zs) = omega (arith, ints, total-from (pos 0 +ℤ z) zs) in
    ap (with_numbers (λ a b. Some (a +ℤ b)) (Some z)) (sum-total zs) ∙ ap (λ (s : ℤ). Some s) first

-- the sum where one is not there
pub sum-empty : SumsWithAnEmptyOneAreEmpty
sum-empty [] after = refl
sum-empty (None ∷ before) after = refl
sum-empty (Some z ∷ before) after = ap (with_numbers (λ a b. Some (a +ℤ b)) (Some z)) (sum-empty before after)

-- an output has as many values as its shape has cells
pub output-length : OutputsHaveAValueForEachCell
output-length op inputs =
    let e = output_extent op (extents_of inputs) in
    length-map-range_with_len (λ k. value_of op inputs (cell_of e k)) 0 (size_of e)

-- what an output holds at a cell is the operator's value there
pub output-value : OutputsHoldTheirValues
output-value op inputs c h =
    let e = output_extent op (extents_of inputs) in
    unwrap_or-slice_get (output_of op inputs).values (index_of e c) None
    ∙ get_or-map-range_with_len (λ k. value_of op inputs (cell_of e k)) 0 (size_of e) (index_of e c)
    (index_of e c) None
    (index-below e c h) (zero-add (index_of e c))
    ∙ ap (value_of op inputs) (cell-index e c h)

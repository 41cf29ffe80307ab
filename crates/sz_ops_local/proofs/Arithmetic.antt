-- The values of an elementwise operator, each made of those at the same cell.
use Rattle.std.proofs.Common.{◌≡◌, ℕ, ◌<◌, true, true≢false, List, Option, length, map, sym, ◌∙◌, arith}
use Rattle.std.specs.Prelude.{ℤ}
use Rattle.std.specs.List.{zip}
use Rattle.sz_cells.specs.declared.Cell.{Cell}
use Rattle.sz_spec.specs.declared.op.Op.{Op}
use Rattle.sz_spec.specs.declared.op.Op.TheVariants.{Neg, Abs, AddK, MulK, Clip, Add, Sub, Mul, Min, Max}
use Rattle.sz_cells.specs.Extent.{size_of}
use Rattle.sz_spec.specs.Values.{Grid, input_at, with_number, with_numbers}
use Rattle.sz_spec.specs.Shapes.{Site, arity}
use Rattle.sz_spec.specs.Evaluation.{of_one, of_two, value_of}
use Rattle.sz_spec.specs.Work.{IsAtWork}
use Rattle.sz_frame.specs.Walks.{values_before}
use Rattle.sz_frame.proofs.Added.{values-mapped, values-zipped}
use Rattle.sz_frame.proofs.Inputs.{input-extent}
use Rattle.sz_ops_local.specs.Local.{is_elementwise}
use Rattle.sz_ops_local.proofs.Places.{same-shapes}

-- an input has the output's shape
input-out : (s : Site) (inputs : List Grid) (i : ℕ) → is_elementwise s.op ≡ true → IsAtWork s inputs → i < arity s.op
    → (input_at inputs i).extent ≡ s.out
input-out s inputs i h work few =
    input-extent s inputs i work ∙ same-shapes s.op s.ins s.out i h few work.site.shape

pub ones-values : (s : Site) (inputs : List Grid) (f : ℤ → Option ℤ) → is_elementwise s.op ≡ true
    → IsAtWork s inputs → 0 < arity s.op
    → length (input_at inputs 0).values ≡ size_of (input_at inputs 0).extent
    → ((o : Cell) → value_of s.op inputs o ≡ of_one f inputs o)
    → map (with_number f) (input_at inputs 0).values ≡ values_before s inputs (size_of s.out)
ones-values s inputs f h work few long each =
    values-mapped s inputs (with_number f) (input_at inputs 0) (input-out s inputs 0 h work few) long
    (λ o held. each o)

pub twos-values : (s : Site) (inputs : List Grid) (f : ℤ → ℤ → Option ℤ) → is_elementwise s.op ≡ true
    → IsAtWork s inputs → arity s.op ≡ 2
    → length (input_at inputs 0).values ≡ size_of (input_at inputs 0).extent
    → length (input_at inputs 1).values ≡ size_of (input_at inputs 1).extent
    → ((o : Cell) → value_of s.op inputs o ≡ of_two f inputs o)
    → map (λ p. with_numbers f p.0 p.1) (zip (input_at inputs 0).values (input_at inputs 1).values)
    ≡ values_before s inputs (size_of s.out)
twos-values s inputs f h work two long long' each =
    values-zipped s inputs (with_numbers f) (input_at inputs 0) (input_at inputs 1)
    (input-out s inputs 0 h work (omega (arith, two))) (input-out s inputs 1 h work (omega (arith, two))) long long'
    (λ o held. each o)

-- there is an input
pub some-input : (op : Op) → is_elementwise op ≡ true → 0 < arity op
some-input Neg h = omega arith
some-input Abs h = omega arith
some-input (AddK k) h = omega arith
some-input (MulK k) h = omega arith
some-input (Clip lo hi) h = omega arith
some-input Add h = omega arith
some-input Sub h = omega arith
some-input Mul h = omega arith
some-input Min h = omega arith
some-input Max h = omega arith
some-input _ h = absurd (true≢false (sym h))

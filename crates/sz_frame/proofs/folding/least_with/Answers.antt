-- The number is the first, or one more.
use Rattle.std.proofs.Common.{◌≡◌, Some, sym, ap, ◌∙◌, arith, w64, to_z, of_z}
use Rattle.std.specs.Prelude.{ℤ}
use Rattle.std.specs.Int.{int_min}
use Rattle.std.proofs.lemmas.Int.{ints}
use Rattle.sz_frame.proofs.Folded.{reduce-first, reduce-next}
use Rattle.sz_frame.proofs.folding.least_with.Goals as goal

pub returns-in-Some : goal.returns-in-Some
returns-in-Some c = λ zs seen.
    let is : to_z w64 (of_z w64 c.min.result) ≡ int_min c.in-Some.least c.args.number =
    grind (arith, ints, c.min.ensures.value) in
    ap (λ (z : ℤ). Some z) is ∙ reduce-next int_min zs c.args.number c.in-Some.least (sym c.in-Some.is ∙ seen)

pub returns-in-None : goal.returns-in-None
returns-in-None c = λ zs seen.
    let is : to_z w64 (of_z w64 c.args.number) ≡ c.args.number = omega (arith, ints) in
    ap (λ (z : ℤ). Some z) is ∙ reduce-first int_min zs c.args.number (sym c.in-None.is ∙ seen)

-- The number is the first, or one more.
use Rattle.std.proofs.Common.{◌≡◌, Some, sym, ap, ◌∙◌, arith, w64, to_z, of_z}
use Rattle.std.specs.Prelude.{ℤ}
use Rattle.std.specs.Int.{int_max}
use Rattle.std.proofs.lemmas.Int.{ints}
use Rattle.sz_frame.proofs.Folded.{reduce-first, reduce-next}
use Rattle.sz_frame.proofs.folding.greatest_with.Goals as goal

pub returns-in-Some : goal.returns-in-Some
returns-in-Some c = λ zs seen.
    let is : to_z w64 (of_z w64 c.max.result) ≡ int_max c.in-Some.greatest c.args.number =
    grind (arith, ints, c.max.ensures.value) in
    ap (λ (z : ℤ). Some z) is ∙ reduce-next int_max zs c.args.number c.in-Some.greatest (sym c.in-Some.is ∙ seen)

pub returns-in-None : goal.returns-in-None
returns-in-None c = λ zs seen.
    let is : to_z w64 (of_z w64 c.args.number) ≡ c.args.number = omega (arith, ints) in
    ap (λ (z : ℤ). Some z) is ∙ reduce-first int_max zs c.args.number (sym c.in-None.is ∙ seen)

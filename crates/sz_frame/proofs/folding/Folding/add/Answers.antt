-- Each part of the summary has one number more.
use Rattle.std.proofs.Common.{◌≡◌, ◌∷◌, [], ◌++◌, Some, ap, ◌∙◌, arith, w64, to_z, of_z}
use Rattle.std.proofs.Common.{length-append}
use Rattle.std.specs.Prelude.{ℤ, ◌+ℤ◌}
use Rattle.std.proofs.lemmas.Int.{ints}
use mir.Syntax.{w128}
use Rattle.sz_frame.specs.Folding.{Summary}
use Rattle.sz_frame.proofs.Folded.{summary-is, total-next}
use Rattle.sz_frame.proofs.folding.Folding.add.Goals as goal

pub returns-clause-numbers : goal.returns-clause-numbers
returns-clause-numbers c = λ zs seen.
    let was = c.self.view_is ∙ seen in
    let z = c.args.number in
    let count = ap (λ (s : Summary). s.count) was in
    let sum = ap (λ (s : Summary). s.sum) was in
    let more : to_z w128 (of_z w128 (to_z w128 (of_z w128 c.self.inside.sum) +ℤ to_z w128 (of_z w128 c.from.result)))
    ≡ c.self.inside.sum +ℤ z = omega (arith, ints, c.self.invariant, c.from.ensures, c.requires) in
    let least : to_z w64 (of_z w64 c.least_with.result) ≡ c.least_with.result = omega (arith, ints) in
    let greatest : to_z w64 (of_z w64 c.greatest_with.result) ≡ c.greatest_with.result = omega (arith, ints) in
    let same : to_z w64 (of_z w64 z) ≡ z = omega (arith, ints) in
    summary-is (zs ++ z ∷ []) _ _ _ _
    (omega (arith, count, length-append zs (z ∷ [])))
    (more ∙ ap (λ (s : ℤ). s +ℤ z) sum ∙ total-next zs z)
    (ap (λ (n : ℤ). Some n) least ∙ (rw same at (c.least_with.ensures zs (ap (λ (s : Summary). s.least) was))))
    (ap (λ (n : ℤ). Some n) greatest ∙ (rw same at (c.greatest_with.ensures zs (ap (λ (s : Summary). s.greatest) was))))

-- Two best choices cost the same, so neither comes before the other; and of two choices for the same nodes one comes
-- before the other unless they are one.
use Rattle.std.proofs.Common.{◌≡◌, true, false, ◌==◌, nat_lt, inl, inr, List, [], ◌∷◌, refl, sym, arith}
use Rattle.std.proofs.lemmas.Bool.{cases_Bool, false≢true}
use Rattle.std.proofs.lemmas.Bool.Decides.{nat_tests}
use Rattle.sz_spec.specs.declared.modes.Strategy.{Strategy}
use Rattle.sz_spec.specs.Modes.{supports, number_of}
use Rattle.sz_spec.specs.Shapes.{Site}
use Rattle.sz_planner.specs.Choices.{is_choice, comes_before, cost_of}
use Rattle.sz_spec.proofs.Ways.{number-apart}
use Rattle.sz_planner.specs.Laws.{BestChoicesAreOne}
use Rattle.sz_planner.proofs.Offered.{and-both}
use Rattle.sz_planner.proofs.laws.best_choices_are_one.Goals as goal

-- neither of two choices for the same nodes comes before the other: they are one
neither-before : (sites : List Site) (a b : List Strategy)
    → is_choice sites a ≡ true → is_choice sites b ≡ true
    → comes_before a b ≡ false → comes_before b a ≡ false → a ≡ b
neither-before [] [] [] ok right here there = refl
neither-before [] [] (d ∷ b) ok right here there = absurd (false≢true right)
neither-before [] (c ∷ a) b ok right here there = absurd (false≢true ok)
neither-before (s ∷ sites) [] b ok right here there = absurd (false≢true ok)
neither-before (s ∷ sites) (c ∷ a) [] ok right here there = absurd (false≢true right)
neither-before (s ∷ sites) (c ∷ a) (d ∷ b) ok right here there =
    let parts = and-both (supports s.op c) (is_choice sites a) ok in
    let others = and-both (supports s.op d) (is_choice sites b) right in
    elim (cases_Bool (nat_lt (number_of c) (number_of d))) [
      | inl less ↦ let never_first : true ≡ false = rw less at here in absurd (cc)
      | inr least ↦
          elim (cases_Bool (nat_lt (number_of d) (number_of c))) [
            | inl less ↦ let never_later : true ≡ false = rw less at there in absurd (cc)
            | inr most ↦
                let numbers : number_of c ≡ number_of d = grind (arith, nat_tests, least, most) in
                let is : c ≡ d = number-apart c d numbers in
                let equal : (number_of c == number_of d) ≡ true = grind (arith, nat_tests, numbers) in
                let back : (number_of d == number_of c) ≡ true = grind (arith, nat_tests, numbers) in
                let rest = neither-before sites a b parts.1 others.1 (rw (least, equal) at here)
                (rw (most, back) at there) in
                cc
          ]
    ]

best_choices_are_one_law : BestChoicesAreOne
best_choices_are_one_law back forward limit sites one other best right =
    let most = best.least other right.choice right.within in
    let least = right.least one best.choice best.within in
    let same : cost_of back forward sites other ≡ cost_of back forward sites one = omega (arith, most, least) in
    neither-before sites one other best.choice right.choice
    (right.first one best.choice best.within (sym same)) (best.first other right.choice right.within same)

pub returns : goal.returns
returns c = best_choices_are_one_law

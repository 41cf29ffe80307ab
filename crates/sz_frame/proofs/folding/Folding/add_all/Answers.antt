-- A value that holds a number adds it, and any other nothing.
use Rattle.std.proofs.Common.{w64, to_z, of_z, rules, ◌∷◌}
use mir.Val.{SFits}
use Rattle.std.proofs.lemmas.Int.{ints}
use Rattle.std.proofs.Common.{◌≡◌, ◌++◌, [], append-nil, take, sym, ap, ◌∙◌, arith}
use Rattle.std.specs.Prelude.{List, ℤ, Option}
use Rattle.std.proofs.lemmas.List.{take_all}
use Rattle.sz_frame.specs.Folding.{summary_of, numbers_in}
use Rattle.sz_frame.proofs.Folded.{numbers-some, numbers-none}
use Rattle.sz_frame.proofs.folding.Folding.add_all.Goals.{in-Some, in_default}
use Rattle.sz_frame.proofs.folding.Folding.add_all.Goals as goal

-- a number is kept as it is
same : (z : ℤ) → SFits w64 z → to_z w64 (of_z w64 z) ≡ z
same z fits = omega (arith, ints)

pub loop-value-init : goal.loop-value-init
loop-value-init c = (omega arith, λ zs seen. seen ∙ ap summary_of (sym (append-nil zs)))

pub loop-value-preserved : goal.loop-value-preserved
loop-value-preserved c =
    let values = c.args.values.now in
    let k = c.loop-value.value-index in
    elim c.match-value.branch [
      | in-Some w ↦ (
        omega (arith, w.add.ensures.count, ap (λ s. s.count) w.self-is, c.loop-value.invariant.0),
        λ zs seen.
            w.self-is ∙ w.add.ensures.numbers (zs ++ numbers_in (take k values)) (c.loop-value.invariant.1 zs seen)
            ∙ ap (λ (z : ℤ). summary_of ((zs ++ numbers_in (take k values)) ++ z ∷ []))
            (same w.in-Some.number (search rules))
            ∙ ap summary_of (numbers-some zs values k w.in-Some.number c.loop-value-test.true w.in-Some.is),
      )
      | in_default w ↦ (
        omega (arith, ap (λ s. s.count) w.self-is, c.loop-value.invariant.0),
        λ zs seen.
            w.self-is ∙ c.loop-value.invariant.1 zs seen
            ∙ ap summary_of (numbers-none zs values k c.loop-value-test.true w.in_default.is),
      )
    ]

pub returns : goal.returns
returns c = λ zs seen.
    c.loop-value.invariant.1 zs seen ∙ ap (λ (ys : List (Option ℤ)). summary_of (zs ++ numbers_in ys))
    (take_all c.loop-value.value-index c.args.values.now c.loop-value-test.false)

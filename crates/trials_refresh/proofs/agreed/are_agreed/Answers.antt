-- One array more.
use Rattle.std.proofs.Common.{◌≡◌, ◌==◌, arith, subst, sym, ◌∙◌, map}
use Rattle.std.specs.Arc.{arc_value}
use Rattle.std.proofs.lemmas.List.{length-map}
use Rattle.sz_spec.specs.Values.{Grid, input_at}
use Rattle.trials_refresh.specs.Changes.{AgreeAt}
use Rattle.trials_refresh.proofs.Arrays.{one-more, input-there}
use Rattle.trials_refresh.proofs.agreed.are_agreed.Goals as goal

pub loop-number-preserved : goal.loop-number-preserved
loop-number-preserved c =
    let number = c.loop-number.number in
    let one : arc_value c.index-before-number.result ≡ input_at (map (λ a. arc_value a) c.args.before.now) number =
    input-there c.args.before.now number c.index-before-number.result
    (omega (arith, c.loop-number.invariant.0, c.loop-number-test.true)) c.index-before-number.is in
    let other : arc_value c.index-base-number.result ≡ input_at (map (λ a. arc_value a) c.args.base.now) number =
    input-there c.args.base.now number c.index-base-number.result c.loop-number-test.true c.index-base-number.is in (
      c.loop-number.invariant.0,
      one-more (λ b. AgreeAt (b == c.args.input) c.args.changed.now
          (input_at (map (λ a. arc_value a) c.args.before.now) b)
          (input_at (map (λ a. arc_value a) c.args.base.now) b)) c.loop-number.number c.loop-number.invariant.1
          (subst (λ (g : Grid). AgreeAt (number == c.args.input) c.args.changed.now g
          (input_at (map (λ a. arc_value a) c.args.base.now) number))
          (c.deref.ensures ∙ one)
          (subst (λ (g : Grid). AgreeAt (number == c.args.input) c.args.changed.now c.deref.result.now g)
          (c.deref-in-loop-number.ensures ∙ other) (c.agree_at.ensures c.if-not-agree_at.false))),
    )

pub returns : goal.returns
returns c =
    let inv = c.loop-number.invariant in
    let base = c.args.base.now in
    λ _. (
      length-map c.args.before.now (λ a. arc_value a) ∙ inv.0 ∙ sym (length-map base (λ a. arc_value a)),
      λ b low. inv.1 b (omega (arith, low, length-map base (λ a. arc_value a), c.loop-number-test.false)),
    )

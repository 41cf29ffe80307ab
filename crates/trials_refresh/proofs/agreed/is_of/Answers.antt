-- The array of the number is the one that has the shape.
use Rattle.std.proofs.Common.{rules, ◌≡◌, true, sym, ap, ◌∙◌}
use Rattle.sz_spec.specs.Values.{Grid}
use Rattle.trials_refresh.proofs.Arrays.{shape-there}
use Rattle.trials_refresh.proofs.agreed.is_of.Goals as goal

pub returns-in-Some : goal.returns-in-Some
returns-in-Some c =
    let there = c.in-Some.ensures.lookup in
    let same : c.eq.result ≡ true → c.shape.result ≡ c.shape-in-Some.result = search rules in
    λ passes.
    sym c.shape.ensures.value ∙ same passes ∙ c.shape-in-Some.ensures
    ∙ ap (λ (g : Grid). g.extent) c.deref.ensures
    ∙ shape-there c.args.base.now c.args.input c.in-Some.array.now there.3.0 there.1

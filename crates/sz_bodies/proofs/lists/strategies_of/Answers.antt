-- A number of no strategy stands in no list's numbers.
use Rattle.std.proofs.Common.{ℕ, List, length, get_or, sym, ap, ◌∙◌, arith}
use Rattle.std.proofs.lemmas.List.{length-map, get_or-map}
use Rattle.sz_spec.specs.declared.modes.Strategy.TheVariants as strategy
use Rattle.sz_spec.specs.Modes.{number_of}
use Rattle.sz_bodies.proofs.lists.strategies_of.Goals as goal

pub returns-in_default-clause-err : goal.returns-in_default-clause-err
returns-in_default-clause-err c list is =
    let i : ℕ = c.loop-number.number-index in
    let there = get_or-map number_of list i strategy.Map 0
    (omega (arith, c.loop-number-test.true, ap length is, length-map list number_of)) in
    c.in_default.ensures.none (get_or list i strategy.Map)
    (sym there ∙ ap (λ (xs : List ℕ). get_or xs i 0) is)

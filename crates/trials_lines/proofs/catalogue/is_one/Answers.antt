-- A list with one element is that element alone, and black box can be chosen for any operator.
use Rattle.std.proofs.Common.{◌≡◌, ◌<◌, ◌≤◌, List, [], ◌∷◌, true, length, refl, arith}
use Rattle.sz_spec.specs.declared.flow.Node.{Node}
use Rattle.sz_spec.specs.declared.modes.Strategy.TheVariants as strategy
use Rattle.sz_catalogue.specs.Rules.{are_lists_for}
use Rattle.trials_lines.proofs.catalogue.is_one.Goals as goal

single : (nodes : List Node) → 1 ≤ length nodes → length nodes < 2
    → are_lists_for nodes ((strategy.BlackBox ∷ []) ∷ []) ≡ true
single [] some few = absurd (omega (arith, some))
single (x ∷ []) some few = refl
single (x ∷ y ∷ nodes) some few = absurd (omega (arith, few))

pub returns-in-len1 : goal.returns-in-len1
returns-in-len1 c = λ _. single c.args.nodes.now c.in-len1.len_at_least c.in-len1.len_below

-- The arrays before the number agree, and there are as many before.
use Rattle.std.proofs.Common.{◌≡◌, ℕ, ◌<◌, ◌==◌, map, length}
use Rattle.std.specs.Arc.{arc_value}
use Rattle.sz_spec.specs.Values.{input_at}
use Rattle.trials_refresh.specs.Changes.{AgreeAt}
use Rattle.trials_refresh.proofs.agreed.are_agreed.Given as goal

abbrev pub invariant-loop-number : goal.invariant-loop-number
invariant-loop-number l = (length l.before ≡ length l.base)
    × ((b : ℕ) → b < l.number
    → AgreeAt (b == l.input) l.changed (input_at (map (λ a. arc_value a) l.before) b)
    (input_at (map (λ a. arc_value a) l.base) b))

-- How lineage is kept: modes, strategies, which of them an operator supports, and the one that a
-- query step uses.
use Rattle.std.specs.Prelude.{ℕ, List, [], ◌∷◌, Bool, true, false, not, ◌==◌, unwrap_or}
use Rattle.std.specs.List.{find, list_any}
use Rattle.sz_spec.specs.declared.op.Op.{Op}
use Rattle.sz_spec.specs.declared.op.Op.TheVariants.{Lookup, Regions, Clean}
use Rattle.sz_spec.specs.declared.modes.Dir.{Dir}
use Rattle.sz_spec.specs.declared.modes.Dir.TheVariants.{Back, Forward}
use Rattle.sz_spec.specs.declared.modes.Mode.{Mode}
use Rattle.sz_spec.specs.declared.modes.Mode.TheVariants as mode
use Rattle.sz_spec.specs.declared.modes.Strategy.{Strategy}
use Rattle.sz_spec.specs.declared.modes.Strategy.TheVariants as strategy

-- the lineage of these three depends on values, so a mapping of cells alone is not all of it
abbrev pub has_mapping : Op → Bool
has_mapping Lookup = false
has_mapping (Regions t) = false
has_mapping (Clean t) = false
has_mapping _ = true

-- Full and black box are supported by all, Map by those with a mapping, Pay and Comp by the others
abbrev pub has_mode : Op → Mode → Bool
has_mode op mode.Full = true
has_mode op mode.Map = has_mapping op
has_mode op mode.Pay = not (has_mapping op)
has_mode op mode.Comp = not (has_mapping op)
has_mode op mode.BlackBox = true

-- the mode of a strategy
abbrev pub mode_of : Strategy → Mode
mode_of strategy.Map = mode.Map
mode_of strategy.FullOneB = mode.Full
mode_of strategy.FullOneF = mode.Full
mode_of strategy.FullManyB = mode.Full
mode_of strategy.FullManyF = mode.Full
mode_of strategy.PayOne = mode.Pay
mode_of strategy.PayMany = mode.Pay
mode_of strategy.CompOne = mode.Comp
mode_of strategy.CompMany = mode.Comp
mode_of strategy.BlackBox = mode.BlackBox

abbrev pub supports : Op → Strategy → Bool
supports op s = has_mode op (mode_of s)

-- all but these two keep a store
abbrev pub is_stored : Strategy → Bool
is_stored strategy.Map = false
is_stored strategy.BlackBox = false
is_stored _ = true

-- the order in which a query step looks for a strategy, for each direction
abbrev pub order_of : Dir → List Strategy
order_of Back = strategy.Map ∷ strategy.FullOneB ∷ strategy.FullManyB ∷ strategy.PayOne
    ∷ strategy.CompOne ∷ strategy.PayMany ∷ strategy.CompMany ∷ strategy.FullOneF
    ∷ strategy.FullManyF ∷ strategy.BlackBox ∷ []
order_of Forward = strategy.Map ∷ strategy.FullOneF ∷ strategy.FullManyF ∷ strategy.FullOneB
    ∷ strategy.FullManyB ∷ strategy.PayOne ∷ strategy.CompOne ∷ strategy.PayMany
    ∷ strategy.CompMany ∷ strategy.BlackBox ∷ []

-- two strategies are one
abbrev pub number_of : Strategy → ℕ
number_of strategy.Map = 1
number_of strategy.FullOneB = 2
number_of strategy.FullOneF = 3
number_of strategy.FullManyB = 4
number_of strategy.FullManyF = 5
number_of strategy.PayOne = 6
number_of strategy.PayMany = 7
number_of strategy.CompOne = 8
number_of strategy.CompMany = 9
number_of strategy.BlackBox = 10

abbrev pub is_listed : List Strategy → Strategy → Bool
is_listed list s = list_any (λ t. number_of t == number_of s) list

-- the first strategy of a direction's order that is in the list
abbrev pub way : List Strategy → Dir → Strategy
way list dir = unwrap_or (find (is_listed list) (order_of dir)) strategy.BlackBox

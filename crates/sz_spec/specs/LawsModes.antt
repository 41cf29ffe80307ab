-- What a reader may take for granted of modes, strategies and the way of a query step. Each law is
-- proved of the definitions.
use Rattle.std.specs.Prelude.{◌≡◌, ◌<◌, ℤ, ◌⊎◌, List, [], ◌∷◌, ◌++◌, length, All}
use Rattle.std.specs.Prelude.{Contains, true, false, ◌==◌}
use Rattle.std.specs.Prelude.{◌↔◌}
use Rattle.std.specs.List.{filter}
use Rattle.sz_spec.specs.declared.op.Op.{Op}
use Rattle.sz_spec.specs.declared.op.Op.TheVariants.{Lookup, Regions, Clean}
use Rattle.sz_spec.specs.declared.modes.Dir.{Dir}
use Rattle.sz_spec.specs.declared.modes.Dir.TheVariants.{Back, Forward}
use Rattle.sz_spec.specs.declared.modes.Strategy.{Strategy}
use Rattle.sz_spec.specs.declared.modes.Strategy.TheVariants as strategy
use Rattle.sz_spec.specs.Modes.{has_mapping, supports, order_of, number_of, is_listed, way}

-- the operators without a mapping of cells are lookup, regions and clean
abbrev pub ThreeHaveNoMapping : Type 0
ThreeHaveNoMapping = (op : Op) → (has_mapping op ≡ false)
    ↔ ((op ≡ Lookup) ⊎ (((t : ℤ) × (op ≡ Regions t)) ⊎ ((t : ℤ) × (op ≡ Clean t))))

-- an operator with a mapping supports these strategies, and no others: backward and forward they
-- are looked for in this order
abbrev pub MappedOperatorsSupport : Type 0
MappedOperatorsSupport = (op : Op) → has_mapping op ≡ true
    → filter (supports op) (order_of Back)
    ≡ strategy.Map ∷ strategy.FullOneB ∷ strategy.FullManyB ∷ strategy.FullOneF ∷ strategy.FullManyF
    ∷ strategy.BlackBox ∷ []

abbrev pub MappedOperatorsSupportForward : Type 0
MappedOperatorsSupportForward = (op : Op) → has_mapping op ≡ true
    → filter (supports op) (order_of Forward)
    ≡ strategy.Map ∷ strategy.FullOneF ∷ strategy.FullManyF ∷ strategy.FullOneB ∷ strategy.FullManyB
    ∷ strategy.BlackBox ∷ []

-- the others support these, and no others, in this order
abbrev pub OtherOperatorsSupport : Type 0
OtherOperatorsSupport = (op : Op) → has_mapping op ≡ false
    → filter (supports op) (order_of Back)
    ≡ strategy.FullOneB ∷ strategy.FullManyB ∷ strategy.PayOne ∷ strategy.CompOne ∷ strategy.PayMany
    ∷ strategy.CompMany ∷ strategy.FullOneF ∷ strategy.FullManyF ∷ strategy.BlackBox ∷ []

abbrev pub OtherOperatorsSupportForward : Type 0
OtherOperatorsSupportForward = (op : Op) → has_mapping op ≡ false
    → filter (supports op) (order_of Forward)
    ≡ strategy.FullOneF ∷ strategy.FullManyF ∷ strategy.FullOneB ∷ strategy.FullManyB
    ∷ strategy.PayOne ∷ strategy.CompOne ∷ strategy.PayMany ∷ strategy.CompMany
    ∷ strategy.BlackBox ∷ []

-- strategies of one number are one
abbrev pub NumbersTellStrategiesApart : Type 0
NumbersTellStrategiesApart = (s t : Strategy) → number_of s ≡ number_of t → s ≡ t

-- each direction's order has each strategy once
abbrev pub OrdersHaveEachStrategyOnce : Type 0
OrdersHaveEachStrategyOnce = (dir : Dir) (s : Strategy)
    → filter (λ t. number_of t == number_of s) (order_of dir) ≡ s ∷ []

-- the test that a strategy is listed finds exactly those that are in the list
abbrev pub ListedStrategiesAreInTheList : Type 0
ListedStrategiesAreInTheList = (list : List Strategy) (s : Strategy)
    → (is_listed list s ≡ true) ↔ Contains list s

-- the way by a list of some strategies is in the list
abbrev pub WaysAreInTheList : Type 0
WaysAreInTheList = (list : List Strategy) (dir : Dir) → 0 < length list
    → Contains list (way list dir)

-- none that comes before it in the direction's order is in the list
abbrev pub WaysAreTheFirst : Type 0
WaysAreTheFirst = (list : List Strategy) (dir : Dir) (before after : List Strategy)
    → order_of dir ≡ before ++ way list dir ∷ after → All (λ s. is_listed list s ≡ false) before

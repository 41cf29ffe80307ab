-- Offers: a strategy that a node's operator supports, with what it takes and costs.
use Rattle.std.specs.Prelude.{ℕ, List, [], ◌∷◌, map}
use Rattle.std.specs.List.{filter}
use Rattle.sz_spec.specs.declared.modes.Strategy.{Strategy}
use Rattle.sz_spec.specs.declared.modes.Strategy.TheVariants as strategy
use Rattle.sz_spec.specs.Modes.{supports}
use Rattle.sz_spec.specs.Shapes.{Site}
use Rattle.sz_planner.specs.Choices.{units_at, cost_at}
use Rattle.sz_planner.specs.declared.offers.Offer.{Offer}

-- a strategy at a node: the units of its store, and what so many asks in each direction cost by it
unfoldable pub offer_of : ℕ → ℕ → Site → Strategy → Offer
offer_of back forward s choice = record {
  strategy = choice;
  units = units_at s choice;
  cost = cost_at back forward s choice;
}

-- every strategy but black box, by number
unfoldable pub others : List Strategy
others = strategy.Map ∷ strategy.FullOneB ∷ strategy.FullOneF ∷ strategy.FullManyB
    ∷ strategy.FullManyF ∷ strategy.PayOne ∷ strategy.PayMany ∷ strategy.CompOne
    ∷ strategy.CompMany ∷ []

-- of these strategies those that the node's operator supports, each with what it takes and costs
unfoldable pub offers_among : ℕ → ℕ → Site → List Strategy → List Offer
offers_among back forward s choices = map (offer_of back forward s) (filter (supports s.op) choices)

-- what a node is offered beside black box
unfoldable pub offers_of : ℕ → ℕ → Site → List Offer
offers_of back forward s = offers_among back forward s others

unfoldable pub black_box_of : ℕ → ℕ → Site → Offer
black_box_of back forward s = offer_of back forward s strategy.BlackBox

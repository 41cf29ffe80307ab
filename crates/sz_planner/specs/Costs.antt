-- The least that the nodes from some node on cost, by the units that are left for them, and the
-- list that is read off from it.
use Rattle.std.specs.Prelude.{◌≡◌, ℕ, ◌+◌, ◌-◌, ◌*◌, ◌^◌, ◌≤◌, List, [], ◌∷◌, length, Bool}
use Rattle.std.specs.Prelude.{◌&&◌, ◌==◌, nat_le, min, if◌then◌else◌, fold, unwrap_or, slice_index}
use Rattle.std.specs.Prelude.{slice_index_or, drop, Vec}
use Rattle.std.specs.Global.{Global}
use Rattle.std.specs.List.{find}
use Rattle.sz_spec.specs.declared.modes.Strategy.{Strategy}
use Rattle.sz_spec.specs.Shapes.{Site}
use Rattle.sz_planner.specs.declared.offers.Offer.{Offer}
use Rattle.sz_planner.specs.Offers.{offers_of, black_box_of}

-- no strategy costs more than this at one node
abbrev pub most_at_a_node : ℕ
most_at_a_node = 2 ^ 55

-- what an offer costs, where `behind` tells what the nodes behind cost within the units left
abbrev pub cost_with : (ℕ → ℕ) → ℕ → Offer → ℕ
cost_with behind units o = o.cost + behind (units - o.units)

-- a cost, or that of an offer where it fits and is less
abbrev pub lesser : (ℕ → ℕ) → ℕ → ℕ → Offer → ℕ
lesser behind units least o =
    if nat_le o.units units then min least (cost_with behind units o) else least

-- the least of a cost and of those of the offers that fit
unfoldable pub cheapest : (ℕ → ℕ) → ℕ → ℕ → List Offer → ℕ
cheapest behind units start offers = fold (lesser behind units) start offers

-- the least that a node and those behind it cost: black box always fits
unfoldable pub cost_over : ℕ → ℕ → Site → (ℕ → ℕ) → ℕ → ℕ
cost_over back forward s behind units =
    cheapest behind units ((black_box_of back forward s).cost + behind units)
    (offers_of back forward s)

-- the least that the nodes cost within so many units
unfoldable pub least_cost : ℕ → ℕ → List Site → ℕ → ℕ
least_cost back forward [] units = 0
least_cost back forward (s ∷ sites) units =
    cost_over back forward s (λ left. least_cost back forward sites left) units

-- an offer fits and costs just so much
abbrev pub attains : (ℕ → ℕ) → ℕ → ℕ → Offer → Bool
attains behind units least o = nat_le o.units units && (cost_with behind units o == least)

-- the first of the offers by which a node and those behind it cost least, or else black box
unfoldable pub offer_over : ℕ → ℕ → Site → (ℕ → ℕ) → ℕ → Offer
offer_over back forward s behind units =
    unwrap_or (find (attains behind units (cost_over back forward s behind units))
    (offers_of back forward s)) (black_box_of back forward s)

-- the list that is read off from node 0 on
unfoldable pub list_within : ℕ → ℕ → List Site → ℕ → List Strategy
list_within back forward [] units = []
list_within back forward (s ∷ sites) units =
    let o = offer_over back forward s (λ left. least_cost back forward sites left) units in
    o.strategy ∷ list_within back forward sites (units - o.units)

-- the costs of a node and those behind it, for each number of units up to a limit, over those of
-- the nodes behind it
pub record AreCostsOver (back forward : ℕ) (s : Site) (behind : List ℕ) (limit : ℕ)
    (costs : List ℕ) : Type 0 where
  pub len : length costs ≡ limit + 1
  pub least : (u : ℕ) → u ≤ limit
      → slice_index costs u ≡ cost_over back forward s (λ left. slice_index behind left) u
  pub small : (u : ℕ) → u ≤ limit → slice_index costs u ≤ slice_index behind u + most_at_a_node

-- the least costs of the nodes, for each number of units up to a limit
pub record AreLeastCosts (back forward : ℕ) (sites : List Site) (limit : ℕ) (costs : List ℕ) :
    Type 0 where
  pub len : length costs ≡ limit + 1
  pub least : (u : ℕ) → u ≤ limit → slice_index costs u ≡ least_cost back forward sites u
  pub small : (u : ℕ) → u ≤ limit → slice_index costs u ≤ length sites * most_at_a_node

-- the least costs of no node, of the last one, of the last two, and so on, to those of all nodes
pub record IsTable (back forward : ℕ) (sites : List Site) (limit : ℕ)
    (table : List (Vec ℕ Global)) : Type 0 where
  pub len : length table ≡ length sites + 1
  pub costs : (j : ℕ) (d : Vec ℕ Global) → j ≤ length sites → AreLeastCosts back forward
      (drop (length sites - j) sites) limit (slice_index_or table j d).items

-- The conditions compute, once each part is what it was made of.
use Rattle.std.proofs.Common.{◌≡◌, List, [], ◌∷◌, true, length, ap, ap₂, ◌∙◌}
use Rattle.std.proofs.Common.{arith, None}
use Rattle.sz_cells.specs.Extent.{Extent, flat}
use Rattle.sz_spec.specs.Flows.{Graph, flow_fault}
use Rattle.sz_core.specs.declared.pairs.Pair.{Pair}
use Rattle.sz_core.specs.Examples.{sum_flow, first_pairs, second_pairs}
use Rattle.sz_core.specs.Starts.{shapes_fit}
use Rattle.sz_core.specs.Starts.{first_shelves, are_shelves, are_queries}
use Rattle.sz_core.specs.States.{Query}
use Rattle.trials_cells.specs.Asks.{queries}
use Rattle.trials_cells.proofs.machine.sum_machine.Goals as goal

fits : (g : Graph) (base : List Extent) → g ≡ sum_flow → base ≡ flat 1 70 ∷ []
    → (flow_fault g ≡ None) × (shapes_fit g base ≡ true)
fits g base flow shapes = (ap flow_fault flow, ap₂ shapes_fit flow shapes)

shelves-right : (g : Graph) (base : List Extent) (pairs : List (List (List Pair))) → g ≡ sum_flow
    → base ≡ flat 1 70 ∷ [] → pairs ≡ first_pairs ∷ second_pairs ∷ []
    → are_shelves g base pairs ≡ true
shelves-right g base pairs flow shapes placed =
    ap₂ (λ (f : Graph) (b : List Extent). are_shelves f b pairs) flow shapes
    ∙ ap (are_shelves sum_flow (flat 1 70 ∷ [])) placed

queries-right : (g : Graph) (base : List Extent) (pairs : List (List (List Pair))) (asks : List Query)
    → g ≡ sum_flow
    → base ≡ flat 1 70 ∷ [] → pairs ≡ first_pairs ∷ second_pairs ∷ [] → asks ≡ queries (flat 1 70)
    → are_queries g (first_shelves g base pairs) asks ≡ true
queries-right g base pairs asks flow shapes placed all =
    ap₂ (λ (f : Graph) (b : List Extent). are_queries f (first_shelves f b pairs) asks) flow shapes
    ∙ ap₂ (λ (p : List (List (List Pair))) (q : List Query).
    are_queries sum_flow (first_shelves sum_flow (flat 1 70 ∷ []) p) q) placed all

pub new-requires : goal.new-requires
new-requires c =
    let flow = c.in_ok-flow.ensures in
    let base : c.in_ok-base.base.items ≡ flat 1 70 ∷ [] =
    c.in_ok-base.ensures.items ∙ ap (λ (e : Extent). e ∷ []) c.in_ok-shape.ensures in
    let pairs : c.in_ok-shelves.shelves.items ≡ first_pairs ∷ second_pairs ∷ [] = c.in_ok-shelves.ensures in
    let asks : c.in_ok-asks.asks.items ≡ queries c.in_ok-shape.shape = c.in_ok-asks.ensures in
    let all = asks ∙ ap queries c.in_ok-shape.ensures in
    let both = fits c.in_ok-flow.flow c.in_ok-base.base.items flow base in
    record {
      checked = both.0;
      fits = both.1;
      shelves = shelves-right c.in_ok-flow.flow c.in_ok-base.base.items c.in_ok-shelves.shelves.items flow base
          pairs;
      few = omega (arith, ap length asks);
      asks = queries-right c.in_ok-flow.flow c.in_ok-base.base.items c.in_ok-shelves.shelves.items
          c.in_ok-asks.asks.items flow base pairs all;
    }

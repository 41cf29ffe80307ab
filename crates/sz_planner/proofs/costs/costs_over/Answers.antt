-- The key idea: one number of units more. Each cost is at most that of black box with the nodes behind.
use Rattle.std.proofs.Common.{◌≡◌, ◌≤◌, ◌<◌, ◌+◌, ◌∷◌, [], ◌++◌, ℕ, List, length, get_or, arith, refl}
use Rattle.std.proofs.Common.{below_more}
use Rattle.std.proofs.lemmas.Grind.{common_steps}
use Rattle.sz_spec.specs.Shapes.{Site}
use Rattle.sz_planner.specs.Offers.{offers_of, black_box_of}
use Rattle.sz_planner.specs.Costs.{cost_over, most_at_a_node}
use Rattle.sz_planner.proofs.Cheapest.{cheapest-at_most}
use Rattle.sz_planner.proofs.costs.costs_over.Goals as goal

-- a list that holds f at each index, with f at the next
grows : (f : ℕ → ℕ) (xs : List ℕ) (i x : ℕ) → length xs ≡ i → ((u : ℕ) → u < i → get_or xs u 0 ≡ f u) → x ≡ f i
    → (u : ℕ) → u < i + 1 → get_or (xs ++ x ∷ []) u 0 ≡ f u
grows f xs i x len so_far is =
    below_more _ _ (λ u below. let h = so_far u below in grind (arith, common_steps, h)) (grind (arith, common_steps))

pub loop-units-preserved : goal.loop-units-preserved
unfolding cost_over black_box_of
loop-units-preserved c =
    let back = c.args.asks.back in
    let forward = c.args.asks.forward in
    let behind = λ (left : ℕ). get_or c.args.behind.now left 0 in
    let here : c.cheapest.result ≡ cost_over back forward c.args.node.now behind c.loop-units.units =
    rw (c.cheapest.ensures, c.deref.ensures.value, c.in_ok-offers.ensures.value, c.offer_of-black_box.ensures.value)
    refl in
    record {
      len = rw c.in_ok-push.ensures.items (grind (arith, common_steps));
      least = rw c.in_ok-push.ensures.items
          (grows (cost_over back forward c.args.node.now behind) _ _ _ c.loop-units.invariant.len
          c.loop-units.invariant.least here);
    }

-- black box is taken at a node with no unit
over-at_most : (back forward : ℕ) (s : Site) (b : ℕ → ℕ) (u : ℕ)
    → cost_over back forward s b u ≤ b u + (black_box_of back forward s).cost
unfolding cost_over
over-at_most back forward s b u =
    let h = cheapest-at_most b u ((black_box_of back forward s).cost + b u) (offers_of back forward s) in
    omega (arith, h)

pub returns : goal.returns
unfolding black_box_of
returns c =
    let back = c.args.asks.back in
    let forward = c.args.asks.forward in
    let behind = λ (left : ℕ). get_or c.args.behind.now left 0 in
    let black_box : (black_box_of back forward c.args.node.now).cost ≤ most_at_a_node =
    rw c.offer_of-black_box.ensures.value at c.offer_of-black_box.ensures.small in
    record {
      len = omega (arith, c.loop-units.invariant.len);
      least = λ u within. c.loop-units.invariant.least u (omega arith);
      small = λ u within.
          let is = c.loop-units.invariant.least u (omega arith) in
          let most = over-at_most back forward c.args.node.now behind u in
          omega (arith, is, most, black_box);
    }

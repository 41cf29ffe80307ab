-- The key idea: a strategy more is an offer more where the operator supports it.
use Rattle.std.proofs.Common.{◌≡◌, ℕ, inl, inr, ◌+◌, ◌<◌, ◌≤◌, List, [], ◌∷◌, ◌++◌, length, take, get_or}
use Rattle.std.proofs.Common.{true, false, cond, arith, refl, sym, ap, ◌∙◌}
use Rattle.std.proofs.lemmas.List.Elements.{All-nil, All-push, filter_more}
use Rattle.std.proofs.lemmas.List.{map-append, append-nil}
use Rattle.std.proofs.lemmas.Bool.{cases_Bool}
use Rattle.sz_spec.specs.declared.modes.Strategy.{Strategy}
use Rattle.sz_spec.specs.declared.modes.Strategy.TheVariants as strategy
use Rattle.sz_spec.specs.Modes.{supports}
use Rattle.sz_spec.specs.Shapes.{Site}
use Rattle.sz_planner.specs.declared.offers.Offer.{Offer}
use Rattle.sz_planner.specs.Offers.{offer_of, offers_among}
use Rattle.sz_planner.specs.Costs.{most_at_a_node}
use Rattle.sz_planner.proofs.offers.offers_among.Goals as goal
use Rattle.sz_planner.proofs.offers.offers_among.Goals.{then-supports+in_ok-push, else-supports}

abbrev IsSmall : Offer → Type 0
IsSmall o = o.cost ≤ most_at_a_node

pub loop-strategy-init : goal.loop-strategy-init
unfolding offers_among
loop-strategy-init c = record {
  value = c.in_ok-offers.ensures.items;
  small = rw c.in_ok-offers.ensures.items (All-nil IsSmall);
}

-- the offers of one strategy more
among-next : (back forward : ℕ) (s : Site) (xs : List Strategy) (i : ℕ) (d : Strategy) → i < length xs
    → offers_among back forward s (take (i + 1) xs) ≡ offers_among back forward s (take i xs)
    ++ cond (supports s.op (get_or xs i d)) (offer_of back forward s (get_or xs i d) ∷ []) []
unfolding offers_among
among-next back forward s xs i d inside =
    elim (cases_Bool (supports s.op (get_or xs i d))) [
      | inl t ↦ rw (filter_more (supports s.op) xs i d inside, t) (map-append (offer_of back forward s) _ _)
      | inr f ↦ rw (filter_more (supports s.op) xs i d inside, f) (map-append (offer_of back forward s) _ _)
    ]

pub loop-strategy-preserved : goal.loop-strategy-preserved
loop-strategy-preserved c =
    let i = c.loop-strategy.strategy-index in
    let s = c.args.node.now in
    let x = get_or c.args.strategies.now i strategy.Map in
    let inside : i < length c.args.strategies.now = omega arith in
    let next = among-next c.args.asks.back c.args.asks.forward s c.args.strategies.now i strategy.Map inside in
    let told : c.supports.result ≡ supports s.op x =
    c.supports.ensures ∙ ap (λ op. supports op x) c.op.ensures.value in
    elim c.if-supports.branch [
      | then-supports+in_ok-push w ↦
          let t : supports s.op x ≡ true = sym told ∙ w.if-supports.true in
          let grown : c.if-supports.offers.items
          ≡ c.loop-strategy.offers.items ++ offer_of c.args.asks.back c.args.asks.forward s x ∷ [] =
          rw (w.offers-is, w.in_ok-push.ensures.items, w.offer_of.ensures.value) refl in
          record {
            value = grown ∙ rw (next, t, c.loop-strategy.invariant.value) refl;
            small = rw (w.offers-is, w.in_ok-push.ensures.items)
                (All-push IsSmall _ _ c.loop-strategy.invariant.small w.offer_of.ensures.small);
          }
      | else-supports w ↦
          let f : supports s.op x ≡ false = sym told ∙ w.if-supports.false in
          record {
            value = rw (w.offers-is, next, f, c.loop-strategy.invariant.value) (sym (append-nil _));
            small = rw w.offers-is c.loop-strategy.invariant.small;
          }
    ]

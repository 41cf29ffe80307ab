-- The first store of the strategy is the one that is found, and there is one.
use Rattle.std.proofs.Common.{rules, ◌≡◌, ◌==◌, true, get_or, sym, ap, ◌∙◌, true≢false, arith, eq-eqb}
use denote.Enum.Bare.{same_true}
use Rattle.std.proofs.lemmas.List.{get_or_default}
use Rattle.std.proofs.lemmas.List.Folds.{list_any_none}
use Rattle.sz_spec.specs.contracts.modes.Strategy.{the_type}
use Rattle.sz_spec.specs.Modes.{number_of}
use Rattle.sz_store.specs.declared.stores.ListedStore.{ListedStore}
use Rattle.sz_store.proofs.Listed.{held-first}
use Rattle.sz_store.proofs.stores.place_of.Goals as goal

pub returns-then-eq-clause-store : goal.returns-then-eq-clause-store
returns-then-eq-clause-store c d =
    let stores = c.args.stores.now in
    let i = c.loop-place.place in
    let same = same_true the_type (search rules) _ _ (sym c.if-eq.ensures) in
    let item = get_or_default stores i d c.index-stores-place.result c.loop-place-test.true
    ∙ sym c.index-stores-place.is in
    let found : (number_of (get_or stores i d).strategy == number_of c.args.strategy) ≡ true =
    eq-eqb (number_of (get_or stores i d).strategy) (number_of c.args.strategy)
    (ap (λ (x : ListedStore). number_of x.strategy) item ∙ ap number_of same) in
    held-first c.args.strategy stores i d c.loop-place-test.true (λ k below. c.loop-place.invariant k d below) found

pub returns-then-eq-clause-strategy : goal.returns-then-eq-clause-strategy
returns-then-eq-clause-strategy c d =
    let same = same_true the_type (search rules) _ _ (sym c.if-eq.ensures) in
    let item = get_or_default c.args.stores.now c.loop-place.place d c.index-stores-place.result c.loop-place-test.true
    ∙ sym c.index-stores-place.is in
    ap (λ (x : ListedStore). x.strategy) item ∙ same

pub unreachable-requires : goal.unreachable-requires
unreachable-requires c =
    true≢false
    (sym c.requires
    ∙ list_any_none (λ (l : ListedStore). number_of l.strategy == number_of c.args.strategy) c.args.stores.now
    (λ k d inside. c.loop-place.invariant k d (omega arith)))

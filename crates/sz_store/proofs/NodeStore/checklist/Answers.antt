-- The store that is found keeps what the first of its strategy keeps, in the mode that the strategy asks for.
use Rattle.std.proofs.Common.{◌≡◌, ◌<◌, List, length, map, true, get_or, sym, ap, subst, ◌∙◌}
use Rattle.std.specs.Arc.{arc_value}
use Rattle.sz_spec.specs.Modes.{is_listed, mode_of}
use Rattle.sz_store.specs.Kept.{Keep, NodeLineage, holding_for, nothing_for}
use Rattle.sz_store.specs.Stocks.{stock_of, keep_of}
use Rattle.sz_store.specs.Stocked.{IsStocked}
use Rattle.sz_store.specs.declared.stores.ListedStore.{ListedStore}
use Rattle.sz_store.proofs.Placing.{all-of_map}
use Rattle.sz_store.proofs.Listed.{store-listed}
use Rattle.sz_store.proofs.NodeStore.checklist.Goals as goal

pub place_of-place-requires : goal.place_of-place-requires
place_of-place-requires c =
    rw c.deref.ensures.value
    (store-listed c.args.strategy c.self.inside.list.items c.self.inside.stores.items c.self.invariant.stored
    c.requires.stored
    (subst (λ (x : NodeLineage). is_listed x.list c.args.strategy ≡ true) (sym c.self.view_is) c.requires.listed))

pub returns-clause-kept : goal.returns-clause-kept
returns-clause-kept c =
    let l = c.index.result.now in
    c.checklist.ensures.kept
    ∙ ap (λ (x : ListedStore). (stock_of x.kept).holding) c.index.ensures
    ∙ subst (λ (ls : List ListedStore). (stock_of (get_or ls c.place_of-place.result l).kept).holding
    ≡ holding_for c.args.strategy (map keep_of ls)) c.deref.ensures.value (c.place_of-place.ensures.store l)
    ∙ ap (λ (x : NodeLineage). holding_for c.args.strategy x.stores) c.self.view_is

pub returns-clause-none : goal.returns-clause-none
returns-clause-none c =
    let inside = c.self.inside in
    let items = inside.stores.items in
    let place = c.place_of-place.result in
    let l = c.index.result.now in
    let below : place < length items =
    subst (λ (ls : List ListedStore). place < length ls) c.deref.ensures.value c.place_of-place.ensures.within in
    let P : Keep → Type 0 = IsStocked (arc_value inside.at) inside.placed.items inside.spare in
    let stocked : P (keep_of l) =
    subst (λ (x : ListedStore). P (keep_of x)) (sym c.index.ensures)
    (all-of_map P keep_of items c.self.invariant.each place l below) in
    let strategy : l.strategy ≡ c.args.strategy =
    ap (λ (x : ListedStore). x.strategy) c.index.ensures
    ∙ subst (λ (ls : List ListedStore). (get_or ls place l).strategy ≡ c.args.strategy) c.deref.ensures.value
    (c.place_of-place.ensures.strategy l) in
    c.checklist.ensures.none
    ∙ ap nothing_for (sym stocked.mode ∙ ap mode_of strategy)

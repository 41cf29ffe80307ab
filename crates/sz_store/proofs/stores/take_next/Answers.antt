-- The store that is read is the one of the strategy, and stands behind the others.
use Rattle.std.proofs.Common.{rules, ◌≡◌, [], ◌∷◌, ◌++◌, map, true, refl, ap, subst, ◌∙◌}
use Rattle.std.specs.Arc.{arc_value}
use Rattle.std.proofs.lemmas.List.{map-append}
use Rattle.sz_spec.specs.Modes.{is_stored, mode_of}
use Rattle.sz_spec.specs.Shapes.{Site}
use Rattle.sz_store.specs.Kept.{Keep}
use Rattle.sz_store.specs.Stocks.{keep_of}
use Rattle.sz_store.specs.Words.{Begins}
use Rattle.sz_store.specs.declared.stores.ListedStore.{ListedStore}
use Rattle.sz_store.proofs.stores.take_next.Goals as goal

pub returns-clause-ok : goal.returns-clause-ok
returns-clause-ok g c =
    let stored : is_stored c.args.strategy ≡ true = search rules in
    let l : ListedStore = record { strategy = c.args.strategy; kept = c.in_ok-kept.kept } in
    let f : Keep = keep_of l in
    let pushed : map keep_of c.push.new.self.items ≡ map keep_of c.args.stores.now.items ++ f ∷ [] =
    ap (map keep_of) c.in_ok-push.ensures.items ∙ map-append keep_of c.args.stores.now.items (l ∷ []) in
    let begins : Begins (arc_value c.args.at.now) (mode_of c.args.strategy) c.args.bytes.now c.args.place
    c.in_ok-kept.next
    f.holding = subst
    (λ (x : Site). Begins x (mode_of c.args.strategy) c.args.bytes.now c.args.place c.in_ok-kept.next f.holding)
    c.in_ok-own.ensures c.in_ok-kept.ensures.ok in
    rw stored (f ∷ [], (c.in_ok-kept.next, c.in_ok-kept.ensures.within, refl, begins, refl), pushed)

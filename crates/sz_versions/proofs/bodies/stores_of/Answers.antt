-- One node more; at the end all.
use Rattle.std.proofs.Common.{◌≡◌, ◌+◌, ◌++◌, ◌∷◌, [], map, take, length, ◌≤◌, sym, ap, ◌∙◌, arith}
use Rattle.std.proofs.lemmas.List.{take_more, take_all}
use Rattle.sz_bodies.specs.Fitting.{lineages}
use Rattle.sz_versions.specs.declared.runs.NodeKeeping.{NodeKeeping}
use Rattle.sz_versions.specs.Bodies.{store_in}
use Rattle.sz_versions.specs.Stores.{Trail, keeping_of}
use Rattle.sz_versions.proofs.Trails.{stores-more}
use Rattle.sz_versions.proofs.bodies.stores_of.Goals as goal

pub loop-one-init : goal.loop-one-init
loop-one-init c = ap (λ xs. lineages xs) c.in_ok-stores.ensures.items

pub loop-one-preserved : goal.loop-one-preserved
loop-one-preserved c =
    let items = c.deref-one-items.result.now in
    let i = c.loop-one.one-index in
    let more : take (i + 1) items ≡ take i items ++ c.one-item.result ∷ [] =
    take_more items i c.one-item.result c.loop-one-test.true
    ∙ ap (λ (s : NodeKeeping). take i items ++ s ∷ []) (sym c.one-item.is) in
    ap (λ xs. lineages xs) c.in_ok-push.ensures.items
    ∙ stores-more (take i items) c.one-item.result c.loop-one.stores.items c.in_ok-store_of.field-0
    c.loop-one.invariant c.in_ok-store_of.ensures
    ∙ ap (λ xs. map store_in (map keeping_of xs)) (sym more)

pub returns : goal.returns
returns c =
    let items = c.deref-one-items.result.now in
    let end : length items ≤ c.loop-one.one-index = omega (arith, c.loop-one-test.false) in
    c.loop-one.invariant
    ∙ ap (λ xs. map store_in (map keeping_of xs)) (take_all c.loop-one.one-index items end
    ∙ c.deref-one-items.ensures.value)
    ∙ ap (λ (t : Trail). map store_in t.kept) c.run.view_is

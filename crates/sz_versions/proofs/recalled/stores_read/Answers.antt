-- One node more.
use Rattle.std.proofs.Common.{◌≡◌, ◌+◌, ◌++◌, ◌∷◌, [], List, map, take, sym, ap, ap₂, ◌∙◌, Option}
use Rattle.std.specs.Prelude.{option_map}
use Rattle.std.specs.Arc.{arc_value}
use Rattle.std.specs.declared.sync.Arc.{Arc}
use Rattle.std.proofs.lemmas.List.{map-append, take_more}
use Rattle.sz_store.specs.Kept.{NodeLineage}
use Rattle.sz_bodies.specs.Fitting.{lineages}
use Rattle.sz_versions.specs.Stores.{Keeping, keeping_of, keeping_from}
use Rattle.sz_versions.proofs.recalled.stores_read.Goals as goal

read-more : {X : Type 0} (xs : List (Option (Arc NodeLineage X))) (x : Option (Arc NodeLineage X)) (ks : List Keeping)
    (k : Keeping) → ks ≡ map keeping_from (lineages xs) → k ≡ keeping_from (option_map (λ a. arc_value a) x)
    → ks ++ k ∷ [] ≡ map keeping_from (lineages (xs ++ x ∷ []))
read-more {X} xs x ks k same own =
    let one : Option (Arc NodeLineage X) → Option NodeLineage = λ o. option_map (λ a. arc_value a) o in
    ap₂ (λ (ls : List Keeping) (l : Keeping). ls ++ l ∷ []) same own
    ∙ sym (ap (map keeping_from) (map-append one xs (x ∷ []))
    ∙ map-append keeping_from (map one xs) (one x ∷ []))

pub loop-node-preserved : goal.loop-node-preserved
loop-node-preserved c =
    let nodes = c.args.nodes.now in
    let i = c.loop-node.node-index in
    let x = c.node-item.result in
    let s = c.in_ok-store_read.field-0 in
    let more : take (i + 1) nodes ≡ take i nodes ++ x ∷ [] =
    take_more nodes i x c.loop-node-test.true ∙ ap (λ b. take i nodes ++ b ∷ []) (sym c.node-item.is) in
    ap (λ xs. map keeping_of xs) c.in_ok-push.ensures.items
    ∙ map-append keeping_of c.loop-node.stores.items (s ∷ [])
    ∙ read-more (take i nodes) x (map keeping_of c.loop-node.stores.items) (keeping_of s) c.loop-node.invariant
    c.in_ok-store_read.ensures
    ∙ ap (λ xs. map keeping_from (lineages xs)) (sym more)

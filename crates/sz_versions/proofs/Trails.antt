-- The stores that the trail of an awaited version has.
--
-- The key idea: what is kept of a node is whole once its version is awaited, or is nothing where the list keeps no
-- store. So the stores fit the sites of the executions, which are those of the version's nodes.
use Rattle.std.proofs.Common.{◌≡◌, List, [], ◌∷◌, ◌++◌, map, Option, true, true≢false, refl, sym, ap, ap₂, ◌∙◌, subst}
use Rattle.std.specs.Prelude.{option_map}
use Rattle.std.specs.Arc.{arc_value}
use Rattle.std.specs.declared.sync.Arc.{Arc}
use Rattle.std.proofs.lemmas.List.{map-append}
use Rattle.sz_spec.specs.declared.modes.Strategy.{Strategy}
use Rattle.sz_spec.specs.Shapes.{Site}
use Rattle.sz_store.specs.Kept.{NodeLineage}
use Rattle.sz_flow.specs.Executions.{Execution}
use Rattle.sz_flow.proofs.Executions.{executions-count, executions-at}
use Rattle.sz_catalogue.specs.Holdings.{Version}
use Rattle.sz_bodies.specs.Fitting.{FitsNode, FitNodes, Fit, lineages}
use Rattle.sz_recover.specs.Soundness.{IsSoundNode, AreSoundNodes}
use Rattle.sz_recover.proofs.Sites.{sites-same}
use Rattle.sz_versions.specs.Bodies.{store_in}
use Rattle.sz_versions.specs.Runs.{executions_of, IsSoundVersion}
use Rattle.sz_versions.specs.Stores.{Keeping, nothing, growing, whole, read, IsKeptOf, AreKeptOf, Trail, IsTrailOf}
use Rattle.sz_versions.specs.Stores.{keeping_of}
use Rattle.sz_versions.specs.declared.runs.NodeKeeping.{NodeKeeping}

-- ---- one node

store-fits : (e : Execution) (list : List Strategy) (k : Keeping) → IsKeptOf true e list k
    → FitsNode e.site list (store_in k)
store-fits e list nothing own = own refl
store-fits e list (growing z p) own = absurd (true≢false own.0)
store-fits e list (whole kept) own =
    (own.0, record { site = own.1.site; own = own.1.list; whole = own.1.whole })
store-fits e list (read kept) own = absurd own

store-sound : (e : Execution) (list : List Strategy) (k : Keeping) → IsKeptOf true e list k
    → IsSoundNode e (store_in k)
store-sound e list nothing own = tt
store-sound e list (growing z p) own = absurd (true≢false own.0)
store-sound e list (whole kept) own = own.1.exact
store-sound e list (read kept) own = absurd own

-- ---- all nodes

stores-fit : (es : List Execution) (lists : List (List Strategy)) (keeps : List Keeping)
    → AreKeptOf true es lists keeps → FitNodes (map (λ (e : Execution). e.site) es) lists (map store_in keeps)
stores-fit [] [] [] h = tt
stores-fit (e ∷ es) (l ∷ lists) (k ∷ keeps) h = (store-fits e l k h.0, stores-fit es lists keeps h.1)
stores-fit _ _ _ h = absurd h

stores-sound : (es : List Execution) (lists : List (List Strategy)) (keeps : List Keeping)
    → AreKeptOf true es lists keeps → AreSoundNodes es (map store_in keeps)
stores-sound [] [] [] h = tt
stores-sound (e ∷ es) (l ∷ lists) (k ∷ keeps) h = (store-sound e l k h.0, stores-sound es lists keeps h.1)
stores-sound _ _ _ h = absurd h

-- ---- a trail

-- its stores fit the version
pub trail-fits : (v : Version) (t : Trail) → IsSoundVersion v → IsTrailOf (record v { awaited = true }) t
    → Fit v (map store_in t.kept)
trail-fits v t sound own =
    subst (λ (sites : List Site). FitNodes sites v.lists (map store_in t.kept))
    (sites-same executions-count executions-at v sound.run.0 sound.run.1)
    (stores-fit (executions_of v) v.lists t.kept own.1)

-- and each of them stands for exactly the relation
pub trail-sound : (v : Version) (t : Trail) → IsTrailOf (record v { awaited = true }) t
    → AreSoundNodes (executions_of v) (map store_in t.kept)
trail-sound v t own = stores-sound (executions_of v) v.lists t.kept own.1

-- ---- the stores that the code has

-- one node more
pub stores-more : {X : Type 0} (xs : List NodeKeeping) (x : NodeKeeping) (ss : List (Option (Arc NodeLineage X)))
    (s : Option (Arc NodeLineage X)) → lineages ss ≡ map store_in (map keeping_of xs)
    → option_map (λ a. arc_value a) s ≡ store_in (keeping_of x)
    → lineages (ss ++ s ∷ []) ≡ map store_in (map keeping_of (xs ++ x ∷ []))
stores-more {X} xs x ss s same own =
    let one : Option (Arc NodeLineage X) → Option NodeLineage = λ o. option_map (λ a. arc_value a) o in
    map-append one ss (s ∷ [])
    ∙ ap₂ (λ (ks : List (Option NodeLineage)) (k : Option NodeLineage). ks ++ k ∷ []) same own
    ∙ sym (ap (map store_in) (map-append keeping_of xs (x ∷ []))
    ∙ map-append store_in (map keeping_of xs) (keeping_of x ∷ []))

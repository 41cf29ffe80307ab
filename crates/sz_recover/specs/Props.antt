-- What is known of the entries of an opened log is known in one way.
--
-- The key idea: it is made of equations between values of sets, also where it goes by the nodes.
use Rattle.std.proofs.Common.{List, [], ◌∷◌, Option, Some, None}
use Rattle.std.proofs.Props.{props}
use Rattle.std.specs.Coded.{×_prop}
use Rattle.sz_spec.specs.declared.modes.Strategy.{Strategy}
use Rattle.sz_spec.specs.Shapes.{Site}
use Rattle.sz_store.specs.Kept.{NodeLineage}
use Rattle.sz_catalogue.specs.Holdings.{Version, Holdings}
use Rattle.sz_bodies.specs.Fitting.{FitsNode, FitNodes, Fit, sites_of}
use Rattle.sz_recover.specs.Logs.{Kept}
use Rattle.sz_recover.specs.Opened.{HasItsStores, AreOfVersions}

fits-prop : (s : Site) (list : List Strategy) (kept : Option NodeLineage)
    → IsProp (FitsNode s list kept)
fits-prop s list None = hlevel props
fits-prop s list (Some kept) = hlevel props

nodes-prop : (sites : List Site) (lists : List (List Strategy)) (stores : List (Option NodeLineage))
    → IsProp (FitNodes sites lists stores)
nodes-prop [] [] [] = hlevel
nodes-prop [] [] (k ∷ stores) = hlevel
nodes-prop [] (l ∷ lists) stores = hlevel
nodes-prop (s ∷ sites) [] stores = hlevel
nodes-prop (s ∷ sites) (l ∷ lists) [] = hlevel
nodes-prop (s ∷ sites) (l ∷ lists) (k ∷ stores) =
    ×_prop (fits-prop s l k) (nodes-prop sites lists stores)

fit-prop : (v : Version) (stores : List (Option NodeLineage)) → IsProp (Fit v stores)
fit-prop v stores = nodes-prop (sites_of v) v.lists stores

stored-prop : (kept : Option NodeLineage) → IsProp (HasItsStores kept)
stored-prop None = hlevel
stored-prop (Some kept) = hlevel props

pub own-prop : (c : Holdings) (kept : List Kept) → IsProp (AreOfVersions c kept)
own-prop c kept = hlevel (props, fit-prop, stored-prop)

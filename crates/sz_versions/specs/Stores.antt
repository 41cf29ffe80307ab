-- What a session keeps of a version's nodes: of each whose list has a strategy that keeps a store,
-- a shelf on which its stores grow, its stores once they are whole, or the stores that were read of
-- it where a log gave the version.
use Rattle.std.specs.Prelude.{◌≡◌, List, [], ◌∷◌, Bool, true, false, Option, Some, None}
use Rattle.std.specs.List.{AllZip, list_any, list_all}
use Rattle.std.specs.Arc.{arc_value}
use Rattle.sz_spec.specs.declared.modes.Strategy.{Strategy}
use Rattle.sz_spec.specs.Modes.{is_stored, supports}
use Rattle.sz_store.specs.Kept.{NodeLineage}
use Rattle.sz_flow.specs.Executions.{Execution}
use Rattle.sz_shelf.specs.Tags.{Tag, StandsFor}
use Rattle.sz_shelf.specs.Places.{ShelfPlace}
use Rattle.sz_shelf.specs.Passes.{Onlooker, place_of}
use Rattle.sz_catalogue.specs.Holdings.{Version}
use Rattle.sz_versions.specs.Runs.{executions_of}
use Rattle.sz_versions.specs.declared.runs.NodeKeeping.{NodeKeeping}
use Rattle.sz_versions.specs.declared.runs.NodeKeeping.TheVariants as code

-- the list has a strategy that keeps a store
abbrev pub has_stored : List Strategy → Bool
has_stored list = list_any is_stored list

-- what a shelf of an execution is for, by a list
abbrev pub tag_for : Execution → List Strategy → Tag
tag_for e list = record { site = e.site; inputs = e.inputs; list = list }

-- Stores are those of an execution for a list: of its operator at its shapes, for the stored
-- strategies of the list, in its order; every piece is placed, and each store stands for exactly
-- the relation.
abbrev pub AreStoresFor : Execution → List Strategy → NodeLineage → Type 0
AreStoresFor e list kept = StandsFor (tag_for e list) kept

-- what is kept of a node: nothing; a shelf on which its stores grow, with a pass of it; its stores,
-- which are whole; or stores that were read of a log, whatever they stand for
pub data Keeping : Type 0 where
  nothing : Keeping
  growing : ShelfPlace → Onlooker → Keeping
  whole : NodeLineage → Keeping
  read : NodeLineage → Keeping

-- what is kept of a node whose stores were read, where there are some
abbrev pub keeping_from : Option NodeLineage → Keeping
keeping_from None = nothing
keeping_from (Some kept) = read kept

-- A shelf, and a pass, are those of an execution for a list: the pass is of the shelf, whose tag is
-- the execution's operator and arrays, with the list.
pub record IsShelfFor (e : Execution) (list : List Strategy) (z : ShelfPlace) (p : Onlooker)
    : Type 0 where
  pub own : place_of p ≡ z
  pub tag : p.tag ≡ tag_for e list

-- What is kept of an execution for a list, where the version was started here. Where the list has
-- no strategy that keeps a store it is nothing. Else it is a shelf of it, or stores of it; and once
-- the version is awaited it is stores of it. Stores that were read it is never.
abbrev pub IsKeptOf : Bool → Execution → List Strategy → Keeping → Type 0
IsKeptOf awaited e list nothing = awaited ≡ true → has_stored list ≡ false
IsKeptOf awaited e list (growing z p) =
    (awaited ≡ false) × (has_stored list ≡ true) × IsShelfFor e list z p
IsKeptOf awaited e list (whole kept) = (has_stored list ≡ true) × AreStoresFor e list kept
IsKeptOf awaited e list (read kept) = ⊥

-- what is kept of each execution, for the list at its place
abbrev pub AreKeptOf : Bool → List Execution → List (List Strategy) → List Keeping → Type 0
AreKeptOf awaited [] [] [] = Unit {0}
AreKeptOf awaited (e ∷ es) (list ∷ lists) (kept ∷ keeps) =
    IsKeptOf awaited e list kept × AreKeptOf awaited es lists keeps
AreKeptOf _ _ _ _ = ⊥

-- each strategy of the list at its place is supported by the operator of an execution
abbrev pub AreListed : List Execution → List (List Strategy) → Type 0
AreListed es lists = AllZip (λ e list. list_all (supports e.site.op) list ≡ true) es lists

-- a pass that is kept beside a shelf is of that shelf
abbrev pub IsOwn : Keeping → Type 0
IsOwn nothing = Unit {0}
IsOwn (growing z p) = place_of p ≡ z
IsOwn (whole kept) = Unit {0}
IsOwn (read kept) = Unit {0}

-- what the code keeps of a node, as it is seen here
abbrev pub keeping_of : NodeKeeping → Keeping
keeping_of code.Nothing = nothing
keeping_of (code.Growing shelf pass) = growing (arc_value shelf) pass
keeping_of (code.Whole built) = whole (arc_value built.store)
keeping_of (code.Read store) = read (arc_value store)

-- ---- what a version carries

-- the executions of a version's nodes, and what is kept of each
pub record Trail : Type 0 where
  pub executions : List Execution
  pub kept : List Keeping

-- they are those of a version that was started here, for the lists of its nodes
abbrev pub IsTrailOf : Version → Trail → Type 0
IsTrailOf v t =
    (t.executions ≡ executions_of v) × AreKeptOf v.awaited (executions_of v) v.lists t.kept

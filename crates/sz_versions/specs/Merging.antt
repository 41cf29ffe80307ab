-- What merging the stores of a version that is carried changes, and the numbers that are told of
-- it.
use Rattle.std.specs.Prelude.{◌≡◌, ◌==◌, ℕ, List, [], ◌∷◌, ◌++◌, map, Bool, true, false, All}
use Rattle.std.specs.Prelude.{Option, Some, None, ⊤}
use Rattle.std.specs.List.{AllZip}
use Rattle.sz_spec.specs.declared.modes.Strategy.{Strategy}
use Rattle.sz_spec.specs.Kinds.{kinds_of}
use Rattle.sz_store.specs.Kept.{Holding, regions, entries, NodeLineage}
use Rattle.sz_flow.specs.Executions.{Execution}
use Rattle.sz_merge.specs.Distinct.{AreKinds}
use Rattle.sz_merge.specs.Laws.{paired_in}
use Rattle.sz_merge.specs.Stood.{kinds_kept}
use Rattle.sz_catalogue.specs.Holdings.{Version}
use Rattle.sz_catalogue.specs.Merges.{is_full, kinds_told}
use Rattle.sz_bodies.specs.Fitting.{Fit, IsWholeFor}
use Rattle.sz_recover.specs.Soundness.{AreSoundNodes}
use Rattle.sz_versions.specs.Runs.{executions_of, IsSoundVersion}
use Rattle.sz_versions.specs.Stores.{Keeping, nothing, growing, whole, read, has_stored}
use Rattle.sz_versions.specs.Stores.{AreStoresFor}
use Rattle.sz_versions.specs.Recalled.{HasEachStore}
use Rattle.sz_versions.specs.Residents.{Resident, stores_read, IsTrailBy}
use Rattle.sz_versions.specs.Residents.{Stored, none, on_shelf, built, given}

-- ---- the numbers that are told

-- the kinds of lineage of stores that a log gave
abbrev pub kinds_recalled : List (Option NodeLineage) → List ℕ
kinds_recalled [] = []
kinds_recalled (None ∷ stores) = kinds_recalled stores
kinds_recalled (Some kept ∷ stores) = kinds_kept kept.site kept.stores ++ kinds_recalled stores

-- the numbers that are told of a version once it is merged: of one that a log gave those of its
-- stores
abbrev pub kinds_by : Option (List (Option NodeLineage)) → Version → List ℕ
kinds_by None v = kinds_told v
kinds_by (Some stores) v = kinds_recalled stores

-- those of a node, by what is kept of it, and of all nodes, one after another
abbrev pub kinds_in_kept : Execution → List Strategy → Keeping → List ℕ
kinds_in_kept e list nothing = []
kinds_in_kept e list (growing z p) = []
kinds_in_kept e list (whole kept) = map (λ s. kinds_of e.site.op e.inputs) (paired_in list)
kinds_in_kept e list (read kept) = kinds_kept kept.site kept.stores

abbrev pub kinds_in_nodes : List Execution → List (List Strategy) → List Keeping → List ℕ
kinds_in_nodes (e ∷ es) (list ∷ lists) (kept ∷ keeps) =
    kinds_in_kept e list kept ++ kinds_in_nodes es lists keeps
kinds_in_nodes _ _ _ = []

-- ---- what is merged

-- What is kept of an execution for a list can be merged: it is stores of it, made or read, or it is
-- nothing. A shelf that grows is left alone; once the version is awaited there is none.
abbrev pub IsMergeable : Bool → Execution → List Strategy → Keeping → Type 0
IsMergeable awaited e list nothing = Unit {0}
IsMergeable awaited e list (growing z p) = awaited ≡ false
IsMergeable awaited e list (whole kept) = (has_stored list ≡ true) × AreStoresFor e list kept
IsMergeable awaited e list (read kept) = IsWholeFor e.site list kept

-- that of each execution, for the list at its place
abbrev pub AreMergeable : Bool → List Execution → List (List Strategy) → List Keeping → Type 0
AreMergeable awaited [] [] [] = Unit {0}
AreMergeable awaited (e ∷ es) (list ∷ lists) (kept ∷ keeps) =
    IsMergeable awaited e list kept × AreMergeable awaited es lists keeps
AreMergeable _ _ _ _ = ⊥

-- a store with region pairs has one for each kind of lineage
abbrev pub HasKinds : Holding → Type 0
HasKinds (regions rs) = AreKinds rs
HasKinds (entries comp es) = ⊤

-- ---- what changes

-- what is kept of a node once it was merged: stores that were made are such still, and each with
-- region pairs has one for each kind; all else stays
abbrev pub IsMergedKeeping : Keeping → Keeping → Type 0
IsMergedKeeping nothing new = new ≡ nothing
IsMergedKeeping (growing z p) new = new ≡ growing z p
IsMergedKeeping (whole kept) new =
    (k : NodeLineage) × (new ≡ whole k) × All (λ f. HasKinds f.holding) k.stores
IsMergedKeeping (read kept) new = new ≡ read kept

-- it can be merged again
pub record IsMergedNode (e : Execution) (list : List Strategy) (old new : Keeping) : Type 0 where
  pub mergeable : IsMergeable true e list new
  pub merged : IsMergedKeeping old new

-- so of each node
abbrev pub AreMergedNodes : List Execution → List (List Strategy) → List Keeping → List Keeping
    → Type 0
AreMergedNodes [] [] [] [] = Unit {0}
AreMergedNodes (e ∷ es) (list ∷ lists) (old ∷ olds) (new ∷ news) =
    IsMergedNode e list old new × AreMergedNodes es lists olds news
AreMergedNodes _ _ _ _ = ⊥

-- the same of what stands of a node
abbrev pub IsMergedStored : Stored → Stored → Type 0
IsMergedStored none new = new ≡ none
IsMergedStored (on_shelf z) new = new ≡ on_shelf z
IsMergedStored (built kept) new =
    (k : NodeLineage) × (new ≡ built k) × All (λ f. HasKinds f.holding) k.stores
IsMergedStored (given kept) new = new ≡ given kept

-- the version of a number was merged, and the others stayed
pub record IsMergedIn (n : ℕ) (old new : ℕ × List Stored) : Type 0 where
  pub number : new.0 ≡ old.0
  pub other : (old.0 == n) ≡ false → new.1 ≡ old.1
  pub own : (old.0 == n) ≡ true → AllZip IsMergedStored old.1 new.1

-- What is carried of a version is so still, and what a log gave of it is the same.
pub record IsKeptUp (v : Version) (old new : Resident) : Type 0 where
  pub number : new.number ≡ old.number
  pub logged : new.logged ≡ old.logged
  pub own : IsTrailBy new.logged v new.trail
  pub stores : stores_read new.trail ≡ stores_read old.trail

-- ---- stores that stand for the relation

-- a store keeps region pairs
abbrev pub holds_pairs : Holding → Bool
holds_pairs (regions rs) = true
holds_pairs (entries comp es) = false

-- each store that keeps region pairs is one of full lineage, and the others keep entries
abbrev pub HasEachHolding : Option NodeLineage → Type 0
HasEachHolding None = ⊤
HasEachHolding (Some kept) = All (λ f. holds_pairs f.holding ≡ is_full f.strategy) kept.stores

-- Where there are stores of each list that a log gave, each keeps what its strategy keeps, and each
-- stands for the relation, the numbers that are told of them are those of the version.
abbrev pub SoundStoresTellTheKinds : Type 0
SoundStoresTellTheKinds = (v : Version) (stores : List (Option NodeLineage)) → IsSoundVersion v
    → Fit v stores → All HasEachStore stores → All HasEachHolding stores
    → AreSoundNodes (executions_of v) stores → kinds_recalled stores ≡ kinds_told v

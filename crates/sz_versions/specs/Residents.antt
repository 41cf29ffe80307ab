-- What a session carries of the versions that it holds.
use Rattle.std.specs.Prelude.{◌≡◌, ◌==◌, ℕ, List, map, filter, find, All, if◌then◌else◌}
use Rattle.std.specs.Prelude.{Bool, true, false, Option, Some, None, option_map}
use Rattle.std.specs.List.{count_by, AllZip}
use Rattle.sz_store.specs.Kept.{NodeLineage}
use Rattle.sz_shelf.specs.Places.{ShelfPlace}
use Rattle.sz_catalogue.specs.Holdings.{Version, Holdings}
use Rattle.sz_catalogue.specs.Rules.{has_no_version, version_of}
use Rattle.sz_catalogue.specs.Merges.{is_merge_asked}
use Rattle.sz_bodies.specs.Fitting.{Fit}
use Rattle.sz_recover.specs.Logs.{Kept}
use Rattle.sz_recover.specs.Opened.{versions_under}
use Rattle.sz_versions.specs.Runs.{executions_of, AreSound}
use Rattle.sz_versions.specs.Stores.{Keeping, nothing, growing, whole, read, keeping_from}
use Rattle.sz_versions.specs.Stores.{Trail, IsTrailOf}
use Rattle.sz_versions.specs.Lending.{IsTrailStill}

-- what a session carries of a version: its number, whether a log gave it, and the trail of its
-- nodes
pub record Resident : Type 0 where
  pub number : ℕ
  pub logged : Bool
  pub trail : Trail

-- ---- a version that a log gave

-- the stores that were read of a node
abbrev pub store_read : Keeping → Option NodeLineage
store_read nothing = None
store_read (growing z p) = None
store_read (whole kept) = None
store_read (read kept) = Some kept

abbrev pub stores_read : Trail → List (Option NodeLineage)
stores_read t = map store_read t.kept

-- The version was awaited, the executions are its own, and all that is kept of its nodes are stores
-- that were read, which fit it.
pub record IsReadTrail (v : Version) (t : Trail) : Type 0 where
  pub awaited : v.awaited ≡ true
  pub executions : t.executions ≡ executions_of v
  pub kept : t.kept ≡ map keeping_from (stores_read t)
  pub fit : Fit v (stores_read t)

-- the trail of a version that a log gave, or of one that was started here
abbrev pub IsTrailBy : Bool → Version → Trail → Type 0
IsTrailBy true v t = IsReadTrail v t
IsTrailBy false v t = IsTrailOf v t

-- ---- what is kept true

-- the version of its number is held, and the trail is that version's
pub record IsResident (c : Holdings) (r : Resident) : Type 0 where
  pub held : has_no_version c r.number ≡ false
  pub own : IsTrailBy r.logged (version_of c r.number) r.trail

-- how many there are of a version
abbrev pub residents_under : ℕ → List Resident → ℕ
residents_under n rs = count_by (λ r. r.number == n) rs

-- Each is of a version that is held, and each such version has one.
pub record AreResidents (c : Holdings) (rs : List Resident) : Type 0 where
  pub each : All (IsResident c) rs
  pub once : (n : ℕ) → residents_under n rs ≡ versions_under c n

-- the version of a number is held and was awaited
pub record IsAwaited (c : Holdings) (n : ℕ) : Type 0 where
  pub held : has_no_version c n ≡ false
  pub awaited : (version_of c n).awaited ≡ true

-- so is each of which a merge was asked
abbrev pub AskedWereAwaited : Holdings → Type 0
AskedWereAwaited c = (n : ℕ) → is_merge_asked c n ≡ true → IsAwaited c n

-- What is kept true of a session: the flows and the versions that are held are sound, what is
-- carried is carried of these versions, and a merge was asked of such alone as were awaited.
pub record IsInService (c : Holdings) (rs : List Resident) : Type 0 where
  pub sound : AreSound c
  pub residents : AreResidents c rs
  pub asked : AskedWereAwaited c

-- ---- what is seen of them

-- the stores that a log gave of a version, by its number
abbrev pub kept_of : Resident → Kept
kept_of r = record { number = r.number; stores = stores_read r.trail }

-- the stores of the versions that a log gave, in their order
abbrev pub logged_in : List Resident → List Kept
logged_in rs = map kept_of (filter (λ r. r.logged) rs)

-- those that a log gave of the version of a number
abbrev pub logged_under : ℕ → List Kept → Option (List (Option NodeLineage))
logged_under n ks = option_map (λ k. k.stores) (find (λ k. k.number == n) ks)

-- those that a log gave of this one
abbrev pub logged_of : Resident → Option (List (Option NodeLineage))
logged_of r = if r.logged then Some (stores_read r.trail) else None

-- what stands of what is kept of a node: all but the pass of a shelf
pub data Stored : Type 0 where
  none : Stored
  on_shelf : ShelfPlace → Stored
  built : NodeLineage → Stored
  given : NodeLineage → Stored

abbrev pub stored_of : Keeping → Stored
stored_of nothing = none
stored_of (growing z p) = on_shelf z
stored_of (whole kept) = built kept
stored_of (read kept) = given kept

-- so of each version that is carried, by its number, in their order
abbrev pub stored_in : List Resident → List (ℕ × List Stored)
stored_in rs = map (λ r. (r.number, map stored_of r.trail.kept)) rs

-- ---- what changes

-- a version's trail in place of the one that it had
abbrev pub replaced_in : ℕ → Trail → List Resident → List Resident
replaced_in n t rs =
    map (λ r. if r.number == n then record { number = n; logged = false; trail = t } else r) rs

-- one stays, but for the passes beside its shelves
pub record IsStill (before after : Resident) : Type 0 where
  pub number : after.number ≡ before.number
  pub logged : after.logged ≡ before.logged
  pub trail : IsTrailStill before.trail after.trail

abbrev pub AreStill : List Resident → List Resident → Type 0
AreStill before after = AllZip IsStill before after

-- What is kept of the versions of a log, whether or not its disk is told: an entry for each version
-- that is held, and no other.
use Rattle.std.specs.Prelude.{◌≡◌, ℕ, ◌≤◌, ◌==◌, List, [], map, true, false, if◌then◌else◌, All}
use Rattle.std.specs.Prelude.{Option, Some, None, ⊤}
use Rattle.std.specs.List.{count_by, Contains}
use Rattle.sz_store.specs.Kept.{NodeLineage, stored_in}
use Rattle.sz_catalogue.specs.Holdings.{Holdings}
use Rattle.sz_catalogue.specs.Rules.{has_no_version, version_of}
use Rattle.sz_bodies.specs.Fitting.{Fit}
use Rattle.sz_recover.specs.Logs.{Kept, IsWellMade}

-- a node has a store for each stored strategy of its list, in the list's order
abbrev pub HasItsStores : Option NodeLineage → Type 0
HasItsStores None = ⊤
HasItsStores (Some kept) = map (λ f. f.strategy) kept.stores ≡ stored_in kept.list

-- A version is held under the entry's number, at least 1, and is awaited, and the stores fit it.
pub record IsEntryOf (c : Holdings) (k : Kept) : Type 0 where
  pub some : 1 ≤ k.number
  pub held : has_no_version c k.number ≡ false
  pub awaited : (version_of c k.number).awaited ≡ true
  pub fit : Fit (version_of c k.number) k.stores
  pub stored : All HasItsStores k.stores

-- how many entries have a number
abbrev pub entries_under : ℕ → List Kept → ℕ
entries_under n kept = count_by (λ k. k.number == n) kept

-- how many versions are held under a number
abbrev pub versions_under : Holdings → ℕ → ℕ
versions_under c n = if has_no_version c n then 0 else 1

-- The entries are those of the versions that are held: each is of one, and each version has one;
-- and of no version a merge was asked.
pub record AreOfVersions (c : Holdings) (kept : List Kept) : Type 0 where
  pub each : All (IsEntryOf c) kept
  pub once : (n : ℕ) → entries_under n kept ≡ versions_under c n
  pub unasked : c.merges ≡ []

-- ---- laws

-- The stores that a well-made log keeps are those of its versions.
abbrev pub WellMadeLogsKeepTheirVersions : Type 0
WellMadeLogsKeepTheirVersions = (disk : List ℕ) (at format : ℕ) (c : Holdings) (kept : List Kept)
    → IsWellMade disk at format c kept → AreOfVersions c kept

-- A version that is held has an entry; so it is awaited.
abbrev pub HeldVersionsHaveEntries : Type 0
HeldVersionsHaveEntries = (c : Holdings) (kept : List Kept) (n : ℕ) → AreOfVersions c kept
    → has_no_version c n ≡ false → (k : Kept) × Contains kept k × (k.number ≡ n) × IsEntryOf c k

abbrev pub HeldVersionsAreAwaited : Type 0
HeldVersionsAreAwaited = (c : Holdings) (kept : List Kept) (n : ℕ) → AreOfVersions c kept
    → has_no_version c n ≡ false → (version_of c n).awaited ≡ true

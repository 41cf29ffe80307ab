-- A log is read in one way: what it holds, its format, where it ends, and where it is bad are facts
-- of its bytes, and so is what it keeps of each version. Not a fact of them is how many pieces the
-- stores say to have been placed: of stores that were read all are.
use Rattle.std.specs.Prelude.{◌≡◌, ℕ, List, [], map, Option, option_map}
use Rattle.sz_store.specs.Kept.{NodeLineage}
use Rattle.sz_catalogue.specs.Holdings.{Holdings}
use Rattle.sz_recover.specs.Logs.{Kept, IsWellMade, IsFirstBad}

-- the stores of a node, without what is said of their pieces
abbrev pub unplaced : NodeLineage → NodeLineage
unplaced k = record k { placed = [] }

-- of each node
abbrev pub bare_stores : List (Option NodeLineage) → List (Option NodeLineage)
bare_stores stores = map (option_map unplaced) stores

-- of an entry, and of all entries
abbrev pub bare : Kept → Kept
bare k = record { number = k.number; stores = bare_stores k.stores }

abbrev pub all_bare : List Kept → List Kept
all_bare kept = map bare kept

-- A well-made log ends at one place, has one format, holds one thing, and keeps of each version
-- stores that keep the same.
abbrev pub WellMadeLogsAreReadInOneWay : Type 0
WellMadeLogsAreReadInOneWay = (disk : List ℕ) (at next format other : ℕ) (c d : Holdings)
    (kept more : List Kept) → IsWellMade disk at format c kept → IsWellMade disk next other d more
    → (next ≡ at) × (other ≡ format) × (d ≡ c) × (all_bare more ≡ all_bare kept)

-- A well-made log has no bad group.
abbrev pub WellMadeLogsAreNotBad : Type 0
WellMadeLogsAreNotBad = (disk : List ℕ) (at place format : ℕ) (c : Holdings) (kept : List Kept)
    → IsWellMade disk at format c kept → IsFirstBad disk place → ⊥

-- The first bad group of a log stands at one place.
abbrev pub LogsAreFirstBadAtOnePlace : Type 0
LogsAreFirstBadAtOnePlace = (disk : List ℕ) (at place : ℕ)
    → IsFirstBad disk at → IsFirstBad disk place → place ≡ at

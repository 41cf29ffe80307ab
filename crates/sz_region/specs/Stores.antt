-- Reading a store that begins at a place of some bytes: what is said where none is read.
use Rattle.std.specs.Prelude.{◌≡◌, ℕ, ◌^◌, ◌<◌, ◌≤◌, List, ◌++◌, length, drop, Some}
use Rattle.std.specs.Prelude.{Bool, true, false}
use Rattle.std.specs.List.{All, slice_get}
use Rattle.sz_cells.specs.Extent.{Extent}
use Rattle.sz_cells.specs.Cells.{Cells}
use Rattle.sz_region.specs.declared.set_bytes.Take.{Take}
use Rattle.sz_region.specs.declared.set_bytes.Take.TheVariants.{Bad, NoMemory}
use Rattle.sz_frame.specs.Parts.{Pairing, Entry}
use Rattle.sz_region.specs.FullBytes.{Listed, listed_from, AreNumbersOf, AreNamesOf, BeginsRegions}
use Rattle.sz_region.specs.PayBytes.{AreNamesOfEntry, BeginsEntries}
use Rattle.sz_frame.specs.Fits.{AreApart}

-- a fact for the fault that says a place
abbrev pub OnBad : Take → Type 0 → Type 0
OnBad (Bad place) P = P
OnBad NoMemory P = Unit {0}

-- no store of region pairs begins at the place, whichever they are and wherever it ends
abbrev pub NoRegionsBegin : Extent → List Extent → List ℕ → ℕ → Type 0
NoRegionsBegin out ins bytes at =
    (next : ℕ) (regions : List Pairing) → BeginsRegions out ins bytes at next regions → ⊥

-- what is said where no region pairs are read: at which place none begin, or that there was no
-- memory
abbrev pub SaysNoRegions : Extent → List Extent → List ℕ → ℕ → Take → Type 0
SaysNoRegions out ins bytes at (Bad place) = (place ≡ at) × NoRegionsBegin out ins bytes at
SaysNoRegions out ins bytes at NoMemory = Unit {0}

-- no store of entries begins at the place, whichever they are and wherever it ends
abbrev pub NoEntriesBegin : Extent → List ℕ → ℕ → Type 0
NoEntriesBegin out bytes at =
    (next : ℕ) (entries : List Entry) → BeginsEntries out bytes at next entries → ⊥

-- what is said where no entries are read: at which place none begin, or that there was no memory
abbrev pub SaysNoEntries : Extent → List ℕ → ℕ → Take → Type 0
SaysNoEntries out bytes at (Bad place) = (place ≡ at) × NoEntriesBegin out bytes at
SaysNoEntries out bytes at NoMemory = Unit {0}

-- the word of no thing of a kind begins at the place
abbrev pub NoneAt : {X : Type 0} → (X → Type 0) → (X → List ℕ) → List ℕ → ℕ → Type 0
NoneAt {X} IsOne word bytes at =
    (x : X) (rest : List ℕ) → IsOne x → drop at bytes ≡ word x ++ rest → ⊥

-- things of a kind, no more than a number of four bytes says
abbrev pub AreFew : {X : Type 0} → (X → Type 0) → List X → Type 0
AreFew IsOne xs = All IsOne xs × (length xs < 2 ^ 32)

-- the number names a set of the array in the table
abbrev pub IsNameFor : List Listed → ℕ → ℕ → Type 0
IsNameFor table array n = (set : Cells) × (slice_get table n
    ≡ Some (record { array = array; set = set }))

-- the numbers name sets of as many arrays in the table, from this array on
abbrev pub AreNamesFor : List Listed → ℕ → ℕ → List ℕ → Type 0
AreNamesFor table array count ns =
    (sets : List Cells) × (length sets ≡ count) × AreNumbersOf table ns (listed_from array sets)

-- the numbers are those of the sets of some region pair
abbrev pub ArePairNames : List Listed → ℕ → List ℕ → Type 0
ArePairNames table inputs ns = (r : Pairing) × AreNamesOf table inputs ns r

-- the rows are the numbers of the sets of some region pairs, not too many
abbrev pub AreStoreNames : List Listed → ℕ → List (List ℕ) → Type 0
AreStoreNames table inputs rows = All (ArePairNames table inputs) rows × (length rows ≤ 2 ^ 30)

-- the number is the place of something in a table of so many
abbrev pub IsNumberIn : ℕ → ℕ → Type 0
IsNumberIn count n = n < count

-- the numbers are those of some entry's output set and payload
abbrev pub AreEntryNames : List Cells → List (List ℕ) → List ℕ → Type 0
AreEntryNames sets payloads ns = (e : Entry) × AreNamesOfEntry sets payloads ns e

-- the rows are the numbers of the output sets and payloads of some entries, not too many
abbrev pub AreEntriesNames : List Cells → List (List ℕ) → List (List ℕ) → Type 0
AreEntriesNames sets payloads rows =
    All (AreEntryNames sets payloads) rows × (length rows ≤ 2 ^ 30)

-- true where no cell is in two of the entries, and false where one is
abbrev pub SaysWhetherApart : List Entry → Bool → Type 0
SaysWhetherApart entries true = AreApart entries
SaysWhetherApart entries false = AreApart entries → ⊥

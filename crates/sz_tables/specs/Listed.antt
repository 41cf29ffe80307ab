-- Reading payload entries from bytes: where listed sets and payloads stand in their tables, and rows of their numbers.
use Rattle.std.specs.Prelude.{◌≡◌, ℕ, ◌^◌, ◌≤◌, List, [], ◌∷◌, length, Some, All}
use Rattle.std.specs.List.{AllZip, slice_get}
use Rattle.sz_cells.specs.Extent.{Extent}
use Rattle.sz_cells.specs.Cells.{Cells}
use Rattle.sz_cells.specs.SetBytes.{IsSetOf, set_bytes}
use Rattle.sz_region.specs.Counted.{counted, rows_bytes, IsAt}
use Rattle.sz_region.specs.PayBytes.{AreNamesOfEntry, BeginsEntries, IsShort, payload_bytes}
use Rattle.sz_region.specs.Stores.{AreFew}
use Rattle.sz_tables.specs.Entries.{EntryRows, entries}
use Rattle.sz_tables.specs.declared.entry_table.EntryRow.{EntryRow}

-- the value is one of the list
abbrev pub IsOneOf : {X : Type 0} → List X → X → Type 0
IsOneOf {X} xs x = (n : ℕ) × (slice_get xs n ≡ Some x)

-- the value has the number in the list
abbrev pub HasNumber : {X : Type 0} → List X → ℕ → X → Type 0
HasNumber {X} xs n x = slice_get xs n ≡ Some x

-- the names are those of the numbers of a row: the first among those of sets, the second among those of payloads
abbrev pub AreNamesOfRow : List ℕ → List ℕ → List ℕ → EntryRow → Type 0
AreNamesOfRow outs bodies (set ∷ payload ∷ []) row =
    (slice_get outs set ≡ Some row.set) × (slice_get bodies payload ≡ Some row.payload)
AreNamesOfRow outs bodies _ row = ⊥

-- a store of the table's entries begins at a place, and ends before another; each payload of the table is one of those
-- that stand there
pub record BeginsTable (out : Extent) (bytes : List ℕ) (at next : ℕ) (t : EntryRows) : Type 0 where
  pub begins : BeginsEntries out bytes at next (entries t)
  pub payloads : All (IsOneOf begins.payloads) t.payloads

-- The same, but that a cell may be in two of the entries: payloads, sets and names stand one behind the other.
pub record IsRead (out : Extent) (bytes : List ℕ) (at next : ℕ) (t : EntryRows) : Type 0 where
  pub listed : List (List ℕ)
  pub sets : List Cells
  pub names : List (List ℕ)
  pub first : ℕ
  pub second : ℕ
  pub short : AreFew IsShort listed
  pub listed_at : IsAt bytes at first (counted payload_bytes listed)
  pub each : AreFew (IsSetOf out) sets
  pub sets_at : IsAt bytes first second (counted set_bytes sets)
  pub named : AllZip (AreNamesOfEntry sets listed) names (entries t)
  pub few : length names ≤ 2 ^ 30
  pub names_at : IsAt bytes second next (rows_bytes names)
  pub payloads : All (IsOneOf listed) t.payloads

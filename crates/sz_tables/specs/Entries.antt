-- Payload entries by the numbers of their output sets and payloads: one row an entry.
use Rattle.std.specs.Prelude.{◌≡◌, ℕ, ◌+◌, ◌^◌, ◌<◌, ◌≤◌, List, [], ◌∷◌, ◌++◌, map, length, All}
use Rattle.std.specs.Prelude.{unwrap_or, Some}
use Rattle.std.specs.List.{slice_get}
use Rattle.sz_cells.specs.Extent.{Extent}
use Rattle.sz_cells.specs.Cells.{Cells, no_cells}
use Rattle.sz_spec.specs.Values.{no_extent}
use Rattle.sz_frame.specs.Parts.{Entry}
use Rattle.sz_tables.specs.Tables.{SetsByNumber, first_capacities}
use Rattle.sz_tables.specs.Payloads.{PayloadsByNumber, payload_at}
use Rattle.sz_tables.specs.Rows.{set_at, HasRoomFor}
use Rattle.sz_tables.specs.declared.entry_table.EntryRow.{EntryRow}

-- what is seen of a table of entries: the output's shape, the different sets and payloads, the
-- rows, each the number of a set and of a payload, for how many rows, runs of their sets and bytes
-- of their payloads there is room without more memory, and the capacities of the lists that are
-- kept
pub record EntryRows : Type 0 where
  pub out : Extent
  pub sets : List Cells
  pub payloads : List (List ℕ)
  pub rows : List EntryRow
  pub spare_rows : ℕ
  pub spare_runs : ℕ
  pub spare_bytes : ℕ
  pub capacities : List ℕ

-- a table without an entry
abbrev pub no_rows : Extent → EntryRows
no_rows out = record {
  out = out;
  sets = [];
  payloads = [];
  rows = [];
  spare_rows = 0;
  spare_runs = 0;
  spare_bytes = 0;
  capacities = 0 ∷ first_capacities ++ first_capacities;
}

-- the table of these rows, by these tables of sets and payloads; how much memory it holds is left out
abbrev pub table_with : SetsByNumber → PayloadsByNumber → List EntryRow → EntryRows
table_with sets payloads rows = record {
  out = sets.extent;
  sets = sets.sets;
  payloads = payloads.payloads;
  rows = rows;
  spare_rows = 0;
  spare_runs = 0;
  spare_bytes = 0;
  capacities = [];
}

-- the row of a number
abbrev pub entry_row_at : List EntryRow → ℕ → EntryRow
entry_row_at rows n = unwrap_or (slice_get rows n) (record { set = 0; payload = 0 })

-- the entry that a row names
abbrev pub entry_named : List Cells → List (List ℕ) → EntryRow → Entry
entry_named sets payloads row = record {
  out = set_at sets row.set;
  payload = payload_at payloads row.payload;
}

-- the entries that a table holds, in their order
abbrev pub entries : EntryRows → List Entry
entries t = map (entry_named t.sets t.payloads) t.rows

-- the entry of a number
abbrev pub entry_at : List Entry → ℕ → Entry
entry_at es n = unwrap_or (slice_get es n) (record { out = no_cells no_extent; payload = [] })

-- a row names a set and a payload
pub record NamesBoth (sets : List Cells) (payloads : List (List ℕ)) (row : EntryRow) : Type 0 where
  pub set : row.set < length sets
  pub payload : row.payload < length payloads

-- what has a number keeps it: rows, sets and payloads
pub record KeepsEntries (old new : EntryRows) : Type 0 where
  pub out : new.out ≡ old.out
  pub rows : (n : ℕ) (row : EntryRow) → slice_get old.rows n ≡ Some row
      → slice_get new.rows n ≡ Some row
  pub sets : (n : ℕ) (s : Cells) → slice_get old.sets n ≡ Some s → slice_get new.sets n ≡ Some s
  pub payloads : (n : ℕ) (p : List ℕ) → slice_get old.payloads n ≡ Some p
      → slice_get new.payloads n ≡ Some p

-- the two numbers of a row, one after the other
abbrev pub numbers_of : EntryRow → List ℕ
numbers_of row = row.set ∷ row.payload ∷ []

-- a table of payloads has room for so many more payloads, and for so many bytes of them together
pub record HasBytesFor (payloads bytes : ℕ) (t : PayloadsByNumber) : Type 0 where
  pub for_payloads : payloads ≤ t.spare_payloads
  pub for_bytes : bytes ≤ t.spare_bytes

-- What stays true of such a table: each row names a set and a payload that are there, there are no
-- more of either than rows, and each list has room for the rows, runs and bytes to come.
pub record AreEntriesSound (sets : SetsByNumber) (payloads : PayloadsByNumber)
    (rows : List EntryRow) (more runs bytes capacity : ℕ) : Type 0 where
  pub named : All (NamesBoth sets.sets payloads.payloads) rows
  pub few : length rows + more ≤ 2 ^ 30
  pub few_sets : length sets.sets ≤ length rows
  pub few_payloads : length payloads.payloads ≤ length rows
  pub room : length rows + more ≤ capacity
  pub set_room : HasRoomFor more runs sets
  pub payload_room : HasBytesFor more bytes payloads

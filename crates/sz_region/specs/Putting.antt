-- What a store can be written of, and rows of numbers in a flat table.
use Rattle.std.specs.Prelude.{◌≡◌, ℕ, ◌+◌, ◌*◌, ◌^◌, ◌<◌, ◌≤◌, List, [], ◌∷◌, ◌++◌, length, map}
use Rattle.std.specs.Prelude.{Some}
use Rattle.std.specs.List.{All, AllZip, flat_map, slice_get}
use Rattle.sz_cells.specs.Extent.{Extent}
use Rattle.sz_cells.specs.SetBytes.{IsSetOf}
use Rattle.sz_spec.specs.Values.{extent_at}
use Rattle.sz_frame.specs.Parts.{Pairing, Entry}
use Rattle.sz_frame.specs.Fits.{AreApart}
use Rattle.sz_region.specs.FullBytes.{Listed, IsListed, listed_of, AreNumbersOf}
use Rattle.sz_region.specs.PayBytes.{IsShort, AreNamesOfEntry}

-- the numbers are those of these rows, one row after the other, each of the same width
pub record AreRows (width : ℕ) (numbers : List ℕ) (rows : List (List ℕ)) : Type 0 where
  pub wide : All (λ row. length row ≡ width) rows
  pub flat : flat_map (λ row. row) rows ≡ numbers

-- the numbers are those of rows of this width, of which there are at most 1,073,741,824
abbrev pub MakeRows : ℕ → List ℕ → Type 0
MakeRows width numbers =
    (rows : List (List ℕ)) × AreRows width numbers rows × (length rows ≤ 2 ^ 30)

-- the region pair has a set of the output's shape, and one of each input's shape
pub record HasShapes (e : Extent) (inputs : List Extent) (r : Pairing) : Type 0 where
  pub out : r.out.extent ≡ e
  pub ins : map (λ s. s.extent) r.ins ≡ inputs

-- Region pairs that can be written: all have sets of these shapes, of 255 inputs at most, there are
-- at most 1,073,741,824, and the numbers of all their sets are numbers of four bytes.
pub record CanPutRegions (out : Extent) (ins : List Extent) (regions : List Pairing) : Type 0 where
  pub each : All (HasShapes out ins) regions
  pub inputs : length ins ≤ 255
  pub few : length regions ≤ 2 ^ 30
  pub sets : length regions * (1 + length ins) < 2 ^ 32

-- Entries that can be written: all have sets of the output's shape, there are at most
-- 1,073,741,824, no cell is in two of them, and each payload is short.
pub record CanPutEntries (out : Extent) (entries : List Entry) : Type 0 where
  pub each : All (λ e. e.out.extent ≡ out) entries
  pub short : All (λ e. IsShort e.payload) entries
  pub few : length entries ≤ 2 ^ 30
  pub apart : AreApart entries

-- the array is there, and the set has its shape
pub record HasShape (out : Extent) (ins : List Extent) (l : Listed) : Type 0 where
  pub array : l.array ≤ length ins
  pub shape : l.set.extent ≡ extent_at (out ∷ ins) l.array

-- Sets were numbered: the table has at most one more for each, one of the operator's arrays where
-- these are, and the names have one more for each, its number in the table.
pub record AreNumbered (table after : List Listed) (names now : List ℕ) (sets : List Listed)
    : Type 0 where
  pub more : List Listed
  pub longer : after ≡ table ++ more
  pub few : length more ≤ length sets
  pub listed : (out : Extent) (ins : List Extent) → All (HasShape out ins) sets
      → All (IsListed out ins) more
  pub numbers : List ℕ
  pub added : now ≡ names ++ numbers
  pub named : AreNumbersOf after numbers sets

-- the same for the sets of each of some region pairs, row by row, from no table on
pub record AreRegionsNumbered (table : List Listed) (names : List ℕ) (regions : List Pairing)
    : Type 0 where
  pub few : length table ≤ length names
  pub listed : (out : Extent) (ins : List Extent) → All (HasShapes out ins) regions
      → All (IsListed out ins) table
  pub rows : List (List ℕ)
  pub flat : flat_map (λ row. row) rows ≡ names
  pub named : AllZip (λ row r. AreNumbersOf table row (listed_of r)) rows regions

-- A payload has this number in the table, which has one more at most.
pub record IsPayloadNumbered (payloads after : List (List ℕ)) (payload : List ℕ) (number : ℕ)
    : Type 0 where
  pub more : List (List ℕ)
  pub longer : after ≡ payloads ++ more
  pub few : length more ≤ 1
  pub short : All IsShort more
  pub named : slice_get after number ≡ Some payload

-- An entry was numbered: the table of sets has its set more, the table of payloads its payload more
-- or none, and the names have the two numbers more.
pub record IsEntryNumbered (payloads after : List (List ℕ)) (sets listed : List Listed)
    (names now : List ℕ) (e : Entry) : Type 0 where
  pub number : ℕ
  pub payload : IsPayloadNumbered payloads after e.payload number
  pub set : listed ≡ sets ++ record { array = 0; set = e.out } ∷ []
  pub is_set : IsSetOf e.out.extent e.out
  pub added : now ≡ names ++ length sets ∷ number ∷ []

-- the same for some entries, row by row, from no tables on
pub record AreEntriesNumbered (payloads : List (List ℕ)) (sets : List Listed) (names : List ℕ)
    (entries : List Entry) : Type 0 where
  pub few : length payloads ≤ length entries
  pub short : All IsShort payloads
  pub outs : map (λ l. l.set) sets ≡ map (λ e. e.out) entries
  pub are_sets : All (λ e. IsSetOf e.out.extent e.out) entries
  pub rows : List (List ℕ)
  pub flat : flat_map (λ row. row) rows ≡ names
  pub named : AllZip (AreNamesOfEntry (map (λ l. l.set) sets) payloads) rows entries

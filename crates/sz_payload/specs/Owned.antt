-- Which entry an output cell is in: an index of entries, by single cells or by rectangles.
use Rattle.std.specs.Prelude.{◌≡◌, ℕ, ◌-◌, ◌*◌, ◌%◌, ◌<◌, ◌≤◌, List, [], ◌∷◌, ◌++◌, length, map}
use Rattle.std.specs.Prelude.{true, false, min, slice_index, Option, MatchOption, All}
use Rattle.std.specs.Vec.{vec_capacity}
use Rattle.std.specs.List.{AllZip, HoldsAt}
use Rattle.sz_cells.specs.declared.Bounds.{Bounds}
use Rattle.sz_cells.specs.declared.Cell.{Cell}
use Rattle.sz_cells.specs.Extent.{Extent, size_of, cell_of}
use Rattle.sz_cells.specs.Cells.{has}
use Rattle.sz_spec.specs.Modes.{has_mapping}
use Rattle.sz_spec.specs.Payloads.{is_payload}
use Rattle.sz_spec.specs.Shapes.{Site}
use Rattle.sz_frame.specs.Fits.{AreApart}
use Rattle.sz_frame.specs.Parts.{Entry}
use Rattle.sz_frame.specs.Stands.{has_entry}
use Rattle.sz_tables.specs.Entries.{EntryRows, entries, entry_at}
use Rattle.sz_tables.specs.Filed.{Filed, Files, told}
use Rattle.sz_tables.specs.Sets.{IsRound}
use Rattle.sz_payload.specs.declared.owner.Owner.{Owner}
use Rattle.sz_payload.specs.declared.owner.Owner.TheVariants.{One, Few, Many}

-- the number is that of an entry that has the cell, and there is none where no entry has it
abbrev pub IsOwnerOf : List Entry → Cell → Option ℕ → Type 0
IsOwnerOf es o found = MatchOption found (has_entry es o ≡ false)
    (λ n. (n < length es) × (has (entry_at es n).out o ≡ true))

-- for each cell the number of an entry that has it and one more, and 0 where none has
pub record AreSlotsOf (e : Extent) (es : List Entry) (slots : List ℕ) : Type 0 where
  pub count : length slots ≡ size_of e
  pub each : (k : ℕ) → k < size_of e → IsOwnerOf es (cell_of e k) (told (slice_index slots k))

-- a number under the rest of each of some indexes over so many keys
abbrev pub rests : ℕ → List ℕ → ℕ → List Filed
rests keys indexes n = map (λ k. record { key = k % keys; item = n }) indexes

-- files with a number more under each of some cells, and so much less room
abbrev pub with_cells : Files → List ℕ → ℕ → Files
with_cells f indexes n = record f {
  entries = f.entries ++ rests f.keys indexes n;
  spare = f.spare - length indexes;
}

-- under the rest of an index stands at this place the number of an entry
abbrev pub IsFiledAt : Files → ℕ → ℕ → ℕ → Type 0
IsFiledAt f k n place = HoldsAt (λ e. (e.key ≡ k % f.keys) × (e.item ≡ n)) f.entries place

-- the number of each entry is filed under each of its cells, and what is filed is one's number
pub record AreFilesOf (e : Extent) (es : List Entry) (f : Files) : Type 0 where
  pub keys : 0 < f.keys
  pub items : All (λ x. x.item < length es) f.entries
  pub each : (n k : ℕ) → n < length es → k < size_of e
      → has (entry_at es n).out (cell_of e k) ≡ true → (place : ℕ) × IsFiledAt f k n place

-- each rectangle has every cell of its entry
abbrev pub AreRound : List Entry → List Bounds → Type 0
AreRound es rectangles = AllZip (λ e b. IsRound b e.out) es rectangles

-- an index is one of entries of an output of this shape
abbrev pub IsIndexOf : Extent → List Entry → Owner → Type 0
IsIndexOf e es (One slots) = AreSlotsOf e es slots.items
IsIndexOf e es (Few files) = AreFilesOf e es files
IsIndexOf e es (Many tree) = AreRound es tree.rectangles

-- for how many more entries there is room in a table and in the index
abbrev pub room_in : ℕ → Owner → ℕ
room_in rows (One slots) = rows
room_in rows (Few files) = rows
room_in rows (Many tree) = min tree.spare rows

-- for how many cells more there is room in the index, where a table has room for so many runs
abbrev pub cell_room : ℕ → Owner → ℕ
cell_room runs (One slots) = runs * 1048576
cell_room runs (Few files) = files.spare
cell_room runs (Many tree) = runs * 1048576

-- the capacities of the lists of the index
abbrev pub owner_capacities : Owner → List ℕ
owner_capacities (One slots) = vec_capacity slots ∷ []
owner_capacities (Few files) = files.capacities
owner_capacities (Many tree) = tree.capacities

-- there is room in the index for so many cells
abbrev pub HasCellRoom : ℕ → Owner → Type 0
HasCellRoom cells (One slots) = Unit {0}
HasCellRoom cells (Few files) = cells ≤ files.spare
HasCellRoom cells (Many tree) = Unit {0}

-- What is held of an operator that has payloads: entries of its output, each payload one of its
-- own, no cell in two of them, and the index of these entries.
pub record IsHeld (s : Site) (t : EntryRows) (w : Owner) : Type 0 where
  pub none : has_mapping s.op ≡ false
  pub out : t.out ≡ s.out
  pub lawful : All (λ p. is_payload s.op s.ins p ≡ true) t.payloads
  pub apart : AreApart (entries t)
  pub index : IsIndexOf s.out (entries t) w

-- What a store of lineage is seen as: what it was given, and for how much more it has room.
use Rattle.std.specs.Prelude.{◌≡◌, ℕ, ◌+◌, ◌≤◌, List, map, length, sum_by}
use Rattle.sz_cells.specs.Cells.{Cells}
use Rattle.sz_spec.specs.Shapes.{Site}
use Rattle.sz_frame.specs.Parts.{Pairing, Entry}
use Rattle.sz_tables.specs.Rows.{runs_in}

-- room that is taken beforehand: for so many region pairs or entries, runs and cells of their sets,
-- and bytes of payloads
pub record Room : Type 0 where
  pub items : ℕ
  pub runs : ℕ
  pub cells : ℕ
  pub bytes : ℕ

-- the first room is not greater than the second
pub record IsWithin (needed room : Room) : Type 0 where
  pub items : needed.items ≤ room.items
  pub runs : needed.runs ≤ room.runs
  pub cells : needed.cells ≤ room.cells
  pub bytes : needed.bytes ≤ room.bytes

-- how many cells a set has
abbrev pub cells_in : Cells → ℕ
cells_in set = length set.indexes

-- the room that region pairs, and that entries, need
abbrev pub room_for_pairs : List Pairing → Room
room_for_pairs rs = record {
  items = length rs;
  runs = sum_by (λ r. runs_in r.out + sum_by runs_in r.ins) rs;
  cells = sum_by (λ r. cells_in r.out + sum_by cells_in r.ins) rs;
  bytes = 0;
}

abbrev pub room_for_entries : List Entry → Room
room_for_entries es = record {
  items = length es;
  runs = sum_by (λ e. runs_in e.out) es;
  cells = sum_by (λ e. cells_in e.out) es;
  bytes = sum_by (λ e. length e.payload) es;
}

-- A store: the operator between its shapes, the region pairs or entries that it was given or read,
-- in their order, its room, and the capacities of the lists that it keeps, which say how much
-- memory it holds. What it stands for is read off what it was given.
pub record Store (X : Type 0) : Type 0 where
  pub site : Site
  pub given : List X
  pub room : Room
  pub capacities : List ℕ

-- a region pair has a set of the output's shape and one of each input's
pub record IsPairOf (s : Site) (r : Pairing) : Type 0 where
  pub out : r.out.extent ≡ s.out
  pub ins : map (λ x. x.extent) r.ins ≡ s.ins

-- nothing is given yet, and there is no room
abbrev pub no_room : Room
no_room = record { items = 0; runs = 0; cells = 0; bytes = 0 }

-- the most region pairs or entries of a store: 2^30
abbrev pub most_given : ℕ
most_given = 1073741824

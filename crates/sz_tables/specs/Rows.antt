-- Region pairs by the numbers of their sets: one row a pair.
use Rattle.std.specs.Prelude.{◌≡◌, ℕ, ◌+◌, ◌*◌, ◌^◌, ◌<◌, ◌≤◌, List, [], ◌∷◌, map, length}
use Rattle.std.specs.Prelude.{unwrap_or, slice_index, slice_index_or, sum_by, take, drop, Some}
use Rattle.std.specs.List.{All, slice_get, zip, range_with_len, concat}
use Rattle.sz_cells.specs.Extent.{Extent}
use Rattle.sz_cells.specs.Cells.{Cells, no_cells}
use Rattle.sz_cells.specs.Runs.{runs_of}
use Rattle.sz_spec.specs.Values.{no_extent}
use Rattle.sz_frame.specs.Parts.{Pairing}
use Rattle.sz_tables.specs.Tables.{SetsByNumber, HasAtMostOneMore, first_capacities}

-- a row: the number of a region pair's output set, and for each input the number of its set
pub record Row : Type 0 where
  pub out : ℕ
  pub ins : List ℕ

-- what is seen of a table of region pairs: the shapes of output and inputs, the different sets of
-- each, the rows, for how many rows and how many runs there is room without more memory, and the
-- capacities of the lists that are kept
pub record RowTable : Type 0 where
  pub out : Extent
  pub ins : List Extent
  pub outs : List Cells
  pub sets : List (List Cells)
  pub rows : List Row
  pub spare_rows : ℕ
  pub spare_runs : ℕ
  pub capacities : List ℕ

-- the rows that a list of numbers spells, of so many inputs
abbrev pub row_from : ℕ → List ℕ → Row
row_from inputs names = record {
  out = slice_index names 0;
  ins = take inputs (drop 1 names);
}

abbrev pub rows_of : ℕ → ℕ → List ℕ → List Row
rows_of inputs count names = map (λ n. row_from inputs (drop (n * (inputs + 1)) names))
    (range_with_len 0 count)

-- the row of a number, and the number of its set of input i
abbrev pub row_at : List Row → ℕ → Row
row_at rows n = unwrap_or (slice_get rows n) (record { out = 0; ins = [] })

abbrev pub number_in : Row → ℕ → ℕ
number_in row i = slice_index row.ins i

-- the set of a number
abbrev pub set_at : List Cells → ℕ → Cells
set_at sets n = unwrap_or (slice_get sets n) (no_cells no_extent)

-- the sets of input i
abbrev pub sets_of : List (List Cells) → ℕ → List Cells
sets_of sets i = unwrap_or (slice_get sets i) []

-- the region pair of a row
abbrev pub pairing_of : List Cells → List (List Cells) → Row → Pairing
pairing_of outs sets row = record {
  out = set_at outs row.out;
  ins = map (λ p. set_at p.0 p.1) (zip sets row.ins);
}

-- the region pairs that a table holds, in their order
abbrev pub pairings : RowTable → List Pairing
pairings t = map (pairing_of t.outs t.sets) t.rows

-- a row names a set of the output and one of each input
pub record IsRowOf (t : RowTable) (row : Row) : Type 0 where
  pub out : row.out < length t.outs
  pub arity : length row.ins ≡ length t.ins
  pub ins : (i : ℕ) → i < length t.ins → number_in row i < length (sets_of t.sets i)

-- what has a number keeps it: rows, and the sets of the output and of each input
pub record Keeps (old new : RowTable) : Type 0 where
  pub out : new.out ≡ old.out
  pub ins : new.ins ≡ old.ins
  pub rows : (n : ℕ) (row : Row) → slice_get old.rows n ≡ Some row → slice_get new.rows n ≡ Some row
  pub outs : (n : ℕ) (s : Cells) → slice_get old.outs n ≡ Some s → slice_get new.outs n ≡ Some s
  pub sets : (i n : ℕ) (s : Cells) → slice_get (sets_of old.sets i) n ≡ Some s
      → slice_get (sets_of new.sets i) n ≡ Some s

-- how many runs the sets of a region pair have together
abbrev pub runs_in : Cells → ℕ
runs_in set = length (runs_of set.indexes)

abbrev pub weight_of : Pairing → ℕ
weight_of r = runs_in r.out + sum_by runs_in r.ins

-- a table of sets that has no set yet
abbrev pub empty_sets : Extent → SetsByNumber
empty_sets e = record {
  extent = e;
  sets = [];
  spare_sets = 0;
  spare_runs = 0;
  capacities = first_capacities;
}

-- the capacities of the lists that some tables of sets keep, one table after the other
abbrev pub set_capacities : List SetsByNumber → List ℕ
set_capacities tables = concat (map (λ t. t.capacities) tables)

-- a table without a region pair
abbrev pub empty_rows : Extent → List Extent → RowTable
empty_rows out ins = record {
  out = out;
  ins = ins;
  outs = [];
  sets = map (λ e. []) ins;
  rows = [];
  spare_rows = 0;
  spare_runs = 0;
  capacities = 0 ∷ length ins ∷ set_capacities (map empty_sets (out ∷ ins));
}

-- a table of sets has room for so many more sets, and for so many runs of them together
pub record HasRoomFor (sets runs : ℕ) (t : SetsByNumber) : Type 0 where
  pub for_sets : sets ≤ t.spare_sets
  pub for_runs : runs ≤ t.spare_runs

-- a table of sets takes a set, to which it gives this number, and no memory
pub record Takes (old new : SetsByNumber) (set : Cells) (n : ℕ) : Type 0 where
  pub number : slice_get new.sets n ≡ Some set
  pub sets : HasAtMostOneMore old.sets new.sets set
  pub extent : new.extent ≡ old.extent
  pub room : old.spare_sets ≤ new.spare_sets + 1
  pub runs : old.spare_runs ≤ new.spare_runs + runs_in set
  pub capacities : new.capacities ≡ old.capacities

-- each of the tables takes the set at its place, to which it gives the number at its place
pub record TakeEach (old new : List SetsByNumber) (sets : List Cells) (ns : List ℕ) : Type 0 where
  pub as_many : length new ≡ length old
  pub numbers : length ns ≡ length old
  pub each : (i : ℕ) (d : SetsByNumber) → i < length old
      → Takes (slice_index_or old i d) (slice_index_or new i d) (set_at sets i) (slice_index ns i)

-- the table of region pairs with these tables of sets, whose rows so many numbers spell; how much
-- memory it holds is left out
abbrev pub table_of : SetsByNumber → List SetsByNumber → List ℕ → ℕ → ℕ → ℕ → RowTable
table_of outs ins names count rows runs = record {
  out = outs.extent;
  ins = map (λ s. s.extent) ins;
  outs = outs.sets;
  sets = map (λ s. s.sets) ins;
  rows = rows_of (length ins) count names;
  spare_rows = rows;
  spare_runs = runs;
  capacities = [];
}

-- What stays true of such a table: each row is whole and names sets that are there, there are no
-- more sets of an array than rows, and each list has room for the rows and runs to come. Only a
-- table of two inputs at most has rows or room for them.
pub record IsSound (outs : SetsByNumber) (ins : List SetsByNumber) (names : List ℕ)
    (count rows runs capacity : ℕ) : Type 0 where
  pub whole : length names ≡ count * (length ins + 1)
  pub named : All (IsRowOf (table_of outs ins names count rows runs))
      (rows_of (length ins) count names)
  pub few : count + rows ≤ 2 ^ 30
  pub inputs : 0 < count + rows → length ins ≤ 2
  pub few_outs : length outs.sets ≤ count
  pub few_ins : All (λ s. length s.sets ≤ count) ins
  pub room : length names + rows * (length ins + 1) ≤ capacity
  pub out_room : HasRoomFor rows runs outs
  pub in_room : All (HasRoomFor rows runs) ins

-- Where a look finds region pairs: sets filed by their cells, and rows by the numbers of their
-- sets.
use Rattle.std.specs.Prelude.{◌≡◌, ℕ, ◌+◌, ◌-◌, ◌≤◌, ◌==◌, Bool, ◌&&◌, List, [], ◌∷◌, ◌++◌, map}
use Rattle.std.specs.Prelude.{◌<◌, length, sum_by, All, Option, MatchOption, slice_index_or}
use Rattle.std.specs.Vec.{vec_capacity}
use Rattle.std.specs.List.{list_any, concat}
use Rattle.sz_cells.specs.declared.Cell.{Cell}
use Rattle.sz_cells.specs.Extent.{size_of}
use Rattle.sz_cells.specs.Cells.{Cells, has, with_those}
use Rattle.sz_spec.specs.declared.modes.Dir.{Dir}
use Rattle.sz_spec.specs.declared.modes.Dir.TheVariants.{Back, Forward}
use Rattle.sz_spec.specs.Shapes.{Site}
use Rattle.sz_spec.specs.Values.{extent_at}
use Rattle.sz_frame.specs.Parts.{Pairing}
use Rattle.sz_frame.specs.Stands.{set_of}
use Rattle.sz_full_one.specs.declared.index.Index.{Index}
use Rattle.sz_full_one.specs.declared.index.Index.TheVariants.{Outs, Ins}
use Rattle.sz_full_one.specs.declared.index.SetFiles.{SetFiles}
use Rattle.sz_tables.specs.Filed.{Filed, Files}
use Rattle.sz_tables.specs.Rows.{RowTable, IsRowOf, Keeps, pairings, sets_of, set_at, number_in}
use Rattle.sz_tables.specs.Stores.{cells_in}
use Rattle.sz_tables.specs.Tables.{HasAtMostOneMore}

-- one item under each of some keys
abbrev pub under : List ℕ → ℕ → List Filed
under keys item = map (λ k. record { key = k; item = item }) keys

-- sets, each under all its cells; the number of the first is n
abbrev pub by_cells : ℕ → List Cells → List Filed
by_cells n [] = []
by_cells n (s ∷ ss) = under s.indexes n ++ by_cells (n + 1) ss

-- places, each under the number that stands there; the first is n
abbrev pub by_numbers : ℕ → List ℕ → List Filed
by_numbers n [] = []
by_numbers n (k ∷ ks) = record { key = k; item = n } ∷ by_numbers (n + 1) ks

-- the files with one item more under each of some keys, and so much less room
abbrev pub with_filed : Files → List ℕ → ℕ → Files
with_filed f keys item = record f {
  entries = f.entries ++ under keys item;
  spare = f.spare - length keys;
}

-- the output set of each region pair is filed by its cells, under them the number of its row
pub record AreFiledByOuts (t : RowTable) (f : Files) : Type 0 where
  pub keys : f.keys ≡ size_of t.out
  pub entries : f.entries ≡ by_cells 0 (map (λ r. r.out) (pairings t))
  pub shapes : All (λ r. r.out.extent ≡ t.out) (pairings t)

-- each different set of input i is filed by its cells, under them its number
pub record AreSetsFiled (t : RowTable) (i : ℕ) (f : SetFiles) : Type 0 where
  pub keys : f.cells.keys ≡ size_of (extent_at t.ins i)
  pub entries : f.cells.entries ≡ by_cells 0 (sets_of t.sets i)
  pub shapes : All (λ s. s.extent ≡ extent_at t.ins i) (sets_of t.sets i)
  pub numbers : f.rows.keys ≡ length (sets_of t.sets i)

-- and each row by the number of its set
pub record AreFiledByIns (t : RowTable) (i : ℕ) (f : SetFiles) : Type 0 where
  pub sets : AreSetsFiled t i f
  pub rows : f.rows.entries ≡ by_numbers 0 (map (λ r. number_in r i) t.rows)

-- the files of all inputs of a table
pub record AreFilesOf (t : RowTable) (inputs : List SetFiles) : Type 0 where
  pub arity : length inputs ≡ length t.ins
  pub each : (i : ℕ) (d : SetFiles) → i < length inputs
      → AreFiledByIns t i (slice_index_or inputs i d)

-- an index is one of a table
abbrev pub IsIndexOf : RowTable → Index → Type 0
IsIndexOf t (Outs rows) = AreFiledByOuts t rows
IsIndexOf t (Ins inputs) = AreFilesOf t inputs.items

-- from which side an index is looked at
abbrev pub side_of : Index → Dir
side_of (Outs rows) = Back
side_of (Ins inputs) = Forward

-- there is room in the files of an input for so many more cells and region pairs
pub record HasFileRoom (least count : ℕ) (f : SetFiles) : Type 0 where
  pub cells : least ≤ f.cells.spare
  pub numbers : count ≤ f.rows.spare_keys
  pub rows : count ≤ f.rows.spare

-- there is room in an index for so many more cells and region pairs
abbrev pub HasRoom : ℕ → ℕ → Index → Type 0
HasRoom cells count (Outs rows) = cells ≤ rows.spare
HasRoom cells count (Ins inputs) = All (HasFileRoom cells count) inputs.items

-- the same keys and entries
pub record HasSameEntries (old new : Files) : Type 0 where
  pub keys : new.keys ≡ old.keys
  pub entries : new.entries ≡ old.entries

pub record HasSameFiles (old new : SetFiles) : Type 0 where
  pub cells : HasSameEntries old.cells new.cells
  pub rows : HasSameEntries old.rows new.rows

-- the capacities of the lists of the files of an input, and of an index
abbrev pub file_capacities : SetFiles → List ℕ
file_capacities f = f.cells.capacities ++ f.rows.capacities

abbrev pub index_capacities : Index → List ℕ
index_capacities (Outs rows) = rows.capacities
index_capacities (Ins inputs) = vec_capacity inputs ∷ concat (map file_capacities inputs.items)

-- how many cells the sets of a region pair have together
abbrev pub pair_cells : Pairing → ℕ
pair_cells r = cells_in r.out + sum_by cells_in r.ins

-- a table before and after it was given a region pair
pub record IsGrownBy (old new : RowTable) (r : Pairing) : Type 0 where
  pub pairings : pairings new ≡ pairings old ++ r ∷ []
  pub kept : Keeps old new
  pub one : length new.rows ≡ length old.rows + 1
  pub named : All (IsRowOf new) new.rows
  pub out : r.out.extent ≡ old.out
  pub ins : map (λ s. s.extent) r.ins ≡ old.ins
  pub sets : (i : ℕ) → i < length old.ins → HasAtMostOneMore (sets_of old.sets i)
      (sets_of new.sets i) (set_of r i)

-- a region pair has sets of the shapes of a table
pub record IsPairIn (t : RowTable) (r : Pairing) : Type 0 where
  pub out : r.out.extent ≡ t.out
  pub ins : map (λ s. s.extent) r.ins ≡ t.ins

-- a table of an operator between its shapes, and its index, with room for so many more region pairs
-- and cells
pub record IsKeptFor (s : Site) (t : RowTable) (x : Index) (count least : ℕ) : Type 0 where
  pub out : t.out ≡ s.out
  pub ins : t.ins ≡ s.ins
  pub index : IsIndexOf t x
  pub rows : count ≤ t.spare_rows
  pub room : HasRoom least count x

-- what the set of a number of input i adds: backward its cells, forward the output sets of the rows
-- that have it
abbrev pub adds : RowTable → Dir → ℕ → ℕ → Cell → Bool
adds t Back i n x = has (set_at (sets_of t.sets i) n) x
adds t Forward i n x = list_any (λ r. (number_in r i == n) && has (set_at t.outs r.out) x) t.rows

-- what was added last, where there is such a number, is there already
abbrev pub IsDone : (ℕ → Cell → Bool) → Option ℕ → Cells → Type 0
IsDone adds last to = MatchOption last (Unit {0}) (λ n. to ≡ with_those to (adds n))

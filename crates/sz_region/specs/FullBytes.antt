-- The bytes of a store of full lineage: a table of sets, and region pairs that name them.
--
-- 4 bytes for the number of sets; each set is one byte for its array, 0 for the output or i + 1
-- for input i, and then the bytes of the set. 4 bytes for the number of region pairs; each is 4
-- for the number of its output set, then for each input 4 for the number of its set. Sets are
-- numbered from 0. A set may stand several times in the table, or be named by no region pair.
use Rattle.std.specs.Prelude.{◌≡◌, ℕ, ◌+◌, ◌^◌, ◌<◌, ◌≤◌, List, [], ◌∷◌, ◌++◌, length, drop}
use Rattle.std.specs.Prelude.{Some}
use Rattle.std.specs.List.{All, AllZip, slice_get, flat_map}
use Rattle.sz_cells.specs.Extent.{Extent}
use Rattle.sz_cells.specs.Cells.{Cells}
use Rattle.sz_cells.specs.Runs.{indexes_of}
use Rattle.sz_cells.specs.declared.Run.{Run}
use Rattle.sz_cells.specs.SetBytes.{IsSetOf, set_bytes}
use Rattle.sz_spec.specs.Values.{extent_at}
use Rattle.sz_frame.specs.Parts.{Pairing}
use Rattle.sz_region.specs.Counted.{counted, rows_bytes}

-- a set of one of the arrays of an operator: 0 is the output, i + 1 is input i
pub record Listed : Type 0 where
  pub array : ℕ
  pub set : Cells

-- the array is there, and the set is one of its shape
pub record IsListed (out : Extent) (ins : List Extent) (l : Listed) : Type 0 where
  pub array : l.array ≤ length ins
  pub set : IsSetOf (extent_at (out ∷ ins) l.array) l.set

-- the array's byte, and the set's bytes
abbrev pub listed_bytes : Listed → List ℕ
listed_bytes l = l.array ∷ set_bytes l.set

-- the listed set of an array that runs spell
abbrev pub listed_by : Extent → List Extent → ℕ → List Run → Listed
listed_by out ins array runs = record {
  array = array;
  set = record { extent = extent_at (out ∷ ins) array; indexes = flat_map indexes_of runs };
}

-- sets of one array after another, from this array on
abbrev pub listed_from : ℕ → List Cells → List Listed
listed_from array [] = []
listed_from array (set ∷ sets) = record { array = array; set = set } ∷ listed_from (array + 1) sets

-- the sets of a region pair: its output set, and one for each input
abbrev pub listed_of : Pairing → List Listed
listed_of r = listed_from 0 (r.out ∷ r.ins)

-- each number is the place of its thing in a table
abbrev pub AreNumbersOf : {X : Type 0} → List X → List ℕ → List X → Type 0
AreNumbersOf table ns xs = AllZip (λ n x. slice_get table n ≡ Some x) ns xs

-- the numbers are those of a region pair's sets, of which there is one for each of so many inputs
pub record AreNamesOf (table : List Listed) (inputs : ℕ) (ns : List ℕ) (r : Pairing) : Type 0 where
  pub whole : length r.ins ≡ inputs
  pub named : AreNumbersOf table ns (listed_of r)

-- the word spells these region pairs of an operator with these shapes, by this table of sets
pub record IsFullWord (out : Extent) (ins : List Extent) (table : List Listed)
    (regions : List Pairing) (word : List ℕ) : Type 0 where
  pub each : All (IsListed out ins) table
  pub few_sets : length table < 2 ^ 32
  pub few : length regions ≤ 2 ^ 30
  pub names : List (List ℕ)
  pub named : AllZip (AreNamesOf table (length ins)) names regions
  pub spelled : word ≡ counted listed_bytes table ++ rows_bytes names

-- a store of these region pairs begins at a place, and ends before another
pub record BeginsRegions (out : Extent) (ins : List Extent) (bytes : List ℕ) (at next : ℕ)
    (regions : List Pairing) : Type 0 where
  pub table : List Listed
  pub word : List ℕ
  pub rest : List ℕ
  pub is_word : IsFullWord out ins table regions word
  pub spelled : drop at bytes ≡ word ++ rest
  pub ends : drop next bytes ≡ rest

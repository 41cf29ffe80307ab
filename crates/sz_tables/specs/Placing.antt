-- Reading region pairs from bytes: where listed sets stand in the tables of their arrays, and rows of their numbers.
use Rattle.std.specs.Prelude.{◌≡◌, ℕ, ◌+◌, List, [], ◌∷◌, ◌++◌, length, drop, Some, All}
use Rattle.std.specs.List.{slice_get, AllZip, flat_map}
use Rattle.sz_cells.specs.Extent.{Extent}
use Rattle.sz_cells.specs.Cells.{Cells}
use Rattle.sz_region.specs.Counted.{IsAt, counted}
use Rattle.sz_region.specs.FullBytes.{Listed, IsListed, listed_bytes, AreNumbersOf}
use Rattle.sz_region.specs.Stores.{AreFew}
use Rattle.sz_tables.specs.Tables.{HasAtMostOneMore}
use Rattle.sz_tables.specs.Rows.{Row, sets_of}
use Rattle.sz_tables.specs.declared.reading.Place.{Place}

-- a place in the table of an array
abbrev pub place_for : ℕ → ℕ → Place
place_for array number = record { array = array; number = number }

-- the place is in the table of the listed set's array
abbrev pub IsOfArray : Place → Listed → Type 0
IsOfArray p l = p.array ≡ l.array

-- and there the listed set stands, where these are the sets of the output and of each input
pub record IsPlaced (all : List (List Cells)) (p : Place) (l : Listed) : Type 0 where
  pub array : p.array ≡ l.array
  pub set : slice_get (sets_of all l.array) p.number ≡ Some l.set

-- the table of an array gets a set, to which it gives this number, and every other stays as it is or gets it too
pub record Gets (old new : List (List Cells)) (array : ℕ) (set : Cells) (n : ℕ) : Type 0 where
  pub number : slice_get (sets_of new array) n ≡ Some set
  pub each : (i : ℕ) → HasAtMostOneMore (sets_of old i) (sets_of new i) set

-- places with these numbers in the tables of one array after another, from this array on
abbrev pub places_from : ℕ → List ℕ → List Place
places_from array [] = []
places_from array (k ∷ ks) = place_for array k ∷ places_from (array + 1) ks

-- the names are those of the places of a row, which has so many inputs
pub record IsRowNamed (places : List Place) (inputs : ℕ) (names : List ℕ) (row : Row) : Type 0 where
  pub arity : length row.ins ≡ inputs
  pub named : AreNumbersOf places names (places_from 0 (row.out ∷ row.ins))

-- So many listed sets stand from a place on, and end before another; each stands at its place in the table of its
-- array.
pub record IsPart (out : Extent) (ins : List Extent) (bytes : List ℕ) (at next count : ℕ) (all : List (List Cells))
    (places : List Place) : Type 0 where
  pub listed : List Listed
  pub many : length listed ≡ count
  pub each : All (IsListed out ins) listed
  pub placed : AllZip (IsPlaced all) places listed
  pub read : IsAt bytes at next (flat_map listed_bytes listed)

-- and no so many stand there
abbrev pub NoPart : Extent → List Extent → List ℕ → ℕ → ℕ → Type 0
NoPart out ins bytes at count = (listed : List Listed) (rest : List ℕ) → length listed ≡ count
    → All (IsListed out ins) listed → drop at bytes ≡ flat_map listed_bytes listed ++ rest → ⊥

-- a table of sets stands at a place, and ends before another; each of its sets stands at its place in the table of its
-- array
pub record IsTable (out : Extent) (ins : List Extent) (bytes : List ℕ) (at next : ℕ) (all : List (List Cells))
    (places : List Place) : Type 0 where
  pub listed : List Listed
  pub few : AreFew (IsListed out ins) listed
  pub placed : AllZip (IsPlaced all) places listed
  pub read : IsAt bytes at next (counted listed_bytes listed)

-- The sets of all arrays of a table in one list, the output's first, and the rows' numbers in that
-- list.
use Rattle.std.specs.Prelude.{◌≡◌, ℕ, ◌+◌, ◌*◌, List, [], ◌∷◌, ◌++◌, map, length, take, drop}
use Rattle.std.specs.List.{All, zip}
use Rattle.sz_cells.specs.Extent.{Extent}
use Rattle.sz_cells.specs.Cells.{Cells}
use Rattle.sz_cells.specs.SetBytes.{IsSetOf}
use Rattle.sz_region.specs.FullBytes.{Listed}
use Rattle.sz_tables.specs.Tables.{SetsByNumber, AreDifferent}

-- the sets of an array
abbrev pub listed_as : ℕ → List Cells → List Listed
listed_as array sets = map (λ s. record { array = array; set = s }) sets

-- the sets of one array after the other, from this array on
abbrev pub listed_sets : ℕ → List (List Cells) → List Listed
listed_sets array [] = []
listed_sets array (sets ∷ rest) = listed_as array sets ++ listed_sets (array + 1) rest

-- where the sets of each array begin, if those of the first begin at a place
abbrev pub starts_from : ℕ → List (List Cells) → List ℕ
starts_from place [] = []
starts_from place (sets ∷ rest) = place ∷ starts_from (place + length sets) rest

-- the numbers of row n, where each row has so many
abbrev pub numbers_at : ℕ → List ℕ → ℕ → List ℕ
numbers_at width names n = take width (drop (n * width) names)

-- numbers of sets, one of each array, where the sets of each begin at its start
abbrev pub shifted : List ℕ → List ℕ → List ℕ
shifted starts ns = map (λ p. p.0 + p.1) (zip starts ns)

-- different sets of this shape
pub record AreSetsOf (e : Extent) (sets : List Cells) : Type 0 where
  pub each : All (IsSetOf e) sets
  pub different : AreDifferent sets

-- these are all sets of these tables, and where those of each begin
pub record AreListed (tables : List SetsByNumber) (sets : List Listed) (starts : List ℕ) : Type 0
  where
    pub sets_are : sets ≡ listed_sets 0 (map (λ t. t.sets) tables)
    pub starts_are : starts ≡ starts_from 0 (map (λ t. t.sets) tables)
    pub each : All (λ t. AreSetsOf t.extent t.sets) tables

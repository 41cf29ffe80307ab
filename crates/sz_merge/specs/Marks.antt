-- Output cells with the numbers of their lineages, and the cells of each number.
use Rattle.std.specs.Prelude.{◌≡◌, ℕ, ◌+◌, ◌<◌, ◌≤◌, ◌==◌, List, [], ◌∷◌, ◌++◌, length, map}
use Rattle.std.specs.Prelude.{Bool, ◌&&◌, ◌||◌, not, true, false}
use Rattle.std.specs.Prelude.{Some, nat_lt, slice_index, slice_index_or, All}
use Rattle.std.specs.List.{slice_get, filter, range_with_len, flat_map}
use Rattle.sz_cells.specs.declared.Cell.{Cell}
use Rattle.sz_cells.specs.declared.Run.{Run}
use Rattle.sz_cells.specs.Extent.{Extent, size_of, cell_of}
use Rattle.sz_cells.specs.Cells.{Cells, has}
use Rattle.sz_cells.specs.Runs.{AreRunsFrom, covers}
use Rattle.sz_frame.specs.Parts.{Pairing}
use Rattle.sz_region.specs.FullBytes.{Listed, listed_of, listed_bytes, IsFullWord}
use Rattle.sz_region.specs.Putting.{AreNumbered, AreRegionsNumbered}
use Rattle.sz_frame.specs.Stands.{set_of}
use Rattle.sz_tables.specs.Tables.{spelled, SetsByNumber}
use Rattle.sz_merge.specs.Lineages.{sets_where, nothing, behind, list_at, lists_of, KeepsNumbers}

-- a cell of input i is in the region pair's set of that input
abbrev pub has_in : Pairing → ℕ → Cell → Bool
has_in r i x = has (set_of r i) x

-- a lineage of the first number has this region pair's input sets more under the second
pub record IsNext (ins : List Extent) (r : Pairing) (lists : List (List Cells)) (a b : ℕ) : Type 0
  where
    pub there : a < length lists
    pub then : b < length lists
    pub more : (test : ℕ → Cell → Bool) → slice_get lists a ≡ Some (sets_where ins test)
        → slice_get lists b ≡ Some (sets_where ins (λ i x. test i x || has_in r i x))

-- each number is that of a lineage
abbrev pub AreNumbers : List ℕ → List (List Cells) → Type 0
AreNumbers labels lists = All (λ n. n < length lists) labels

-- Each chosen cell got a region pair's input sets more, the others kept what they had.
pub record AreMarked (ins : List Extent) (r : Pairing) (chosen : ℕ → Bool) (old new : List ℕ)
    (before after : List (List Cells)) : Type 0 where
  pub long : length new ≡ length old
  pub kept : KeepsNumbers before after
  pub each : (k : ℕ) (test : ℕ → Cell → Bool) → k < length old
      → slice_get before (slice_index old k) ≡ Some (sets_where ins test)
      → slice_get after (slice_index new k)
      ≡ Some (sets_where ins (λ i x. test i x || (chosen k && has_in r i x)))

-- the cell of an index is in the output set of a region pair
abbrev pub has_index : Pairing → ℕ → Bool
has_index r k = has r.out (cell_of r.out.extent k)

-- each output cell has the number of what stands behind it by these region pairs, and 0 is the
-- number of nothing
pub record AreLabels (out : Extent) (ins : List Extent) (rs : List Pairing) (labels : List ℕ)
    (lists : List (List Cells)) : Type 0 where
  pub long : length labels ≡ size_of out
  pub zero : slice_get lists 0 ≡ Some (nothing ins)
  pub each : (k : ℕ) → k < size_of out
      → slice_get lists (slice_index labels k) ≡ Some (behind ins rs (cell_of out k))

-- runs with one cell more behind all of theirs
pub record HasCellMore (old : List Run) (index : ℕ) (new : List Run) : Type 0 where
  pub longest : (bound : ℕ) → AreRunsFrom 0 bound old → index < bound → AreRunsFrom 0 bound new
  pub begun : All (λ r. r.first ≤ index) new
  pub covered : (k : ℕ) → covers new k ≡ (covers old k || (index == k))

-- the runs are the longest ones of the cells below n that have a number
pub record AreRunsOf (labels : List ℕ) (n number : ℕ) (runs : List Run) : Type 0 where
  pub longest : AreRunsFrom 0 (length labels) runs
  pub begun : All (λ r. r.first ≤ n) runs
  pub covered : (k : ℕ) → covers runs k ≡ (nat_lt k n && (slice_index labels k == number))

-- for each number below a count the runs of the cells below n that have it
pub record AreGroups (labels : List ℕ) (count n : ℕ) (groups : List (List Run)) : Type 0 where
  pub many : length groups ≡ count
  pub each : (number : ℕ) → number < count
      → AreRunsOf labels n number (slice_index_or groups number [])

-- the region pair of a number, which is one of a kind where the number is not 0 and some cell has
-- it
abbrev pub region_at : Extent → List (List Run) → List (List Cells) → ℕ → Pairing
region_at out groups lists n = record {
  out = spelled out (slice_index_or groups n []);
  ins = list_at lists n;
}

abbrev pub is_kind : List (List Run) → ℕ → Bool
is_kind groups n = nat_lt 0 n && not (length (slice_index_or groups n []) == 0)

-- the region pairs of the numbers below a count
abbrev pub kinds_below : Extent → List (List Run) → List (List Cells) → ℕ → List Pairing
kinds_below out groups lists count =
    map (region_at out groups lists) (filter (is_kind groups) (range_with_len 0 count))

-- the region pair of the cells of some runs and one set behind them
abbrev pub kind_of : Extent → List Run → Cells → Pairing
kind_of out runs set = record { out = spelled out runs; ins = set ∷ [] }

-- the region pairs of the numbers above 0 of some cells, behind each the set of a table whose
-- number is one less
abbrev pub kinds_behind : Extent → List (List Run) → SetsByNumber → List Pairing
kinds_behind out groups behind =
    kinds_below out groups (lists_of (behind.extent ∷ []) behind.sets) (length groups)

-- Sets were put: they were numbered behind as many as there are names, each as one more, and their
-- bytes were put behind other ones.
pub record ArePut (names now old new : List ℕ) (sets : List Listed) : Type 0 where
  pub numbered : (table : List Listed) → length table ≡ length names
      → AreNumbered table (table ++ sets) names now sets
  pub each : length now ≡ length names + length sets
  pub added : new ≡ old ++ flat_map listed_bytes sets

-- where it is one of a kind, the sets of a region pair were put, and else nothing was
abbrev pub IsKindPut : Bool → List ℕ → List ℕ → List ℕ → List ℕ → Pairing → Type 0
IsKindPut true names now old new r = ArePut names now old new (listed_of r)
IsKindPut false names now old new r = (now ≡ names) × (new ≡ old)

-- the sets of some region pairs were numbered, and put behind other bytes in this order
pub record AreSetsPut (names : List ℕ) (rs : List Pairing) (old new : List ℕ) : Type 0 where
  pub table : List Listed
  pub numbered : AreRegionsNumbered table names rs
  pub each : length table ≡ length names
  pub added : new ≡ old ++ flat_map listed_bytes table

-- region pairs, so many, were put behind other bytes in one word
pub record IsStorePut (out : Extent) (ins : List Extent) (rs : List Pairing) (count : ℕ)
    (old new : List ℕ) : Type 0 where
  pub many : length rs ≡ count
  pub table : List Listed
  pub word : List ℕ
  pub is_word : IsFullWord out ins table rs word
  pub added : new ≡ old ++ word

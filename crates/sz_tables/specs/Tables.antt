-- Sets of one shape by number, each different set once.
use Rattle.std.specs.Prelude.{◌≡◌, ℕ, ◌+◌, ◌-◌, ◌*◌, ◌%◌, ◌<◌, ◌≤◌, max, fold, map, All}
use Rattle.std.specs.Prelude.{List, [], ◌∷◌, ◌++◌, length, take, drop, slice_range, Some, ◌⊎◌}
use Rattle.std.specs.List.{slice_get, flat_map}
use Rattle.sz_cells.specs.declared.Run.{Run}
use Rattle.sz_cells.specs.Extent.{Extent, size_of}
use Rattle.sz_cells.specs.Cells.{Cells}
use Rattle.sz_cells.specs.Runs.{indexes_of, AreRunsFrom}
use Rattle.sz_tables.specs.Filed.{Filed, Files}
use Rattle.sz_tables.specs.declared.spans.Span.{Span}

-- what is seen of a table of sets: the shape, the sets in the order of their numbers, for how many
-- sets and how many runs there is room without more memory, and the capacities of the lists that
-- are kept
pub record SetsByNumber : Type 0 where
  pub extent : Extent
  pub sets : List Cells
  pub spare_sets : ℕ
  pub spare_runs : ℕ
  pub capacities : List ℕ

-- the capacities of a table without a set: it has room for 17 keys, and for nothing else
abbrev pub first_capacities : List ℕ
first_capacities = 0 ∷ 0 ∷ 17 ∷ 0 ∷ []

-- no two of the sets are one
abbrev pub AreDifferent : {X : Type 0} → List X → Type 0
AreDifferent {X} xs = (m n : ℕ) (x : X) → slice_get xs m ≡ Some x → slice_get xs n ≡ Some x → m ≡ n

-- the list, and where the value is none of them the value behind it
abbrev pub HasAtMostOneMore : {X : Type 0} → List X → List X → X → Type 0
HasAtMostOneMore old new x = (new ≡ old) ⊎ (new ≡ old ++ x ∷ [])

-- the set that runs spell
abbrev pub spelled : Extent → List Run → Cells
spelled e runs = record { extent = e; indexes = flat_map indexes_of runs }

-- the slices of a list, in the order of their numbers
abbrev pub slices_by_number : {X : Type 0} → List X → List Span → List (List X)
slices_by_number {X} xs spans = map (λ s. slice_range xs s.start s.end) spans

-- the spans that end at these places, each from where the one before it ends, the first one from a place on
abbrev pub spans_from : ℕ → List ℕ → List Span
spans_from start [] = []
spans_from start (end ∷ ends) = record { start = start; end = end } ∷ spans_from end ends

-- where the last of them ends, and where there is none the place
abbrev pub end_from : ℕ → List ℕ → ℕ
end_from start [] = start
end_from start (end ∷ ends) = end_from end ends

-- the runs of each set, in the order of the sets' numbers
abbrev pub runs_by_number : List Run → List Span → List (List Run)
runs_by_number runs spans = slices_by_number runs spans

-- the first cell of the first run, and 0 where there is no run
abbrev pub first_of : List Run → ℕ
first_of [] = 0
first_of (r ∷ runs) = r.first

-- no runs of these begin behind this cell
abbrev pub BeginUpTo : ℕ → List (List Run) → Type 0
BeginUpTo latest pieces = All (λ runs. first_of runs ≤ latest) pieces

-- what the runs of a set are mixed to: their number, the first 16 of them, and the last 16. Where a
-- set is another one moved by some cells, it is mixed to so much more: sets beside one another are
-- filed beside one another.
abbrev pub mixed : ℕ → Run → ℕ
mixed h r = ((h + 4294967296 - r.last) * 1000003 + r.first) % 4294967296

abbrev pub seed_of : List Run → ℕ
seed_of runs = (length runs % 4294967296 + first_of runs) % 4294967296

abbrev pub first_mixed : List Run → ℕ
first_mixed runs = fold mixed (seed_of runs) (take 16 runs)

abbrev pub mix_of : List Run → ℕ
mix_of runs = fold mixed (first_mixed runs) (drop (max 16 (length runs - 16)) runs)

-- the entry of a set by its runs, under so many keys
abbrev pub filed_by : ℕ → List Run → Filed
filed_by keys runs = record { key = mix_of runs % keys; item = mix_of runs }

-- spans are within the list of runs and give the longest runs of sets, no two of which are one, and
-- each set is filed by its runs
pub record AreNumbered (e : Extent) (runs : List Run) (spans : List Span) (index : Files)
    : Type 0 where
  pub within : All (λ s. (s.start ≤ s.end) × (s.end ≤ length runs)) spans
  pub longest : All (AreRunsFrom 0 (size_of e)) (runs_by_number runs spans)
  pub different : AreDifferent (map (spelled e) (runs_by_number runs spans))
  pub keys : 0 < index.keys
  pub filed : index.entries ≡ map (filed_by index.keys) (runs_by_number runs spans)

-- How many kinds of lineage a store has, said of what it stands for: output cells are of one kind
-- where it stands for the same cells behind them.
use Rattle.std.specs.Prelude.{ℕ, List, [], ◌∷◌, ◌++◌, map, length, not}
use Rattle.std.specs.List.{filter, range_with_len}
use Rattle.sz_cells.specs.declared.Cell.{Cell}
use Rattle.sz_cells.specs.Extent.{size_of, cell_of}
use Rattle.sz_cells.specs.Cells.{cells_where}
use Rattle.sz_spec.specs.Values.{extent_at}
use Rattle.sz_spec.specs.Shapes.{Site}
use Rattle.sz_spec.specs.Kinds.{is_nothing, different}
use Rattle.sz_store.specs.Kept.{Holding, regions, entries, Keep, holding_stands}

-- the lineage of output cell o by what a store stands for: of each input the cells for which it
-- stands, by their row-major indexes
abbrev pub lineage_stood : Site → Holding → Cell → List (List ℕ)
lineage_stood s h o =
    map (λ i. (cells_where (extent_at s.ins i) (holding_stands s h i o)).indexes)
    (range_with_len 0 (length s.ins))

-- the lineages of all output cells, but those of no cell
abbrev pub lineages_stood : Site → Holding → List (List (List ℕ))
lineages_stood s h = filter (λ sets. not (is_nothing sets))
    (map (λ k. lineage_stood s h (cell_of s.out k)) (range_with_len 0 (size_of s.out)))

-- how many different lineages the output's cells have, one of no cell not counted
abbrev pub kinds_stood : Site → Holding → ℕ
kinds_stood s h = different (lineages_stood s h)

-- how many kinds of lineage a store with region pairs has; one of entries is not asked
abbrev pub kinds_held : Site → Holding → List ℕ
kinds_held s (regions rs) = kinds_stood s (regions rs) ∷ []
kinds_held s (entries comp es) = []

-- how many each store with region pairs has, in the order of the stores
abbrev pub kinds_kept : Site → List Keep → List ℕ
kinds_kept s [] = []
kinds_kept s (f ∷ fs) = kinds_held s f.holding ++ kinds_kept s fs

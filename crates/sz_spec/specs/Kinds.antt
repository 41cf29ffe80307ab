-- How many kinds of lineage an operator's output has: output cells are of one kind where the same
-- cells stand behind them.
use Rattle.std.specs.Prelude.{ℕ, ◌+◌, List, [], ◌∷◌, map, length, Bool, false, true, not, ◌&&◌}
use Rattle.std.specs.Prelude.{◌==◌, if◌then◌else◌}
use Rattle.std.specs.List.{filter, list_any, list_all, range_with_len}
use Rattle.sz_cells.specs.declared.Cell.{Cell}
use Rattle.sz_cells.specs.Extent.{size_of, cell_of}
use Rattle.sz_cells.specs.Cells.{cells_where}
use Rattle.sz_spec.specs.declared.op.Op.{Op}
use Rattle.sz_spec.specs.Values.{Grid, input_at, extents_of}
use Rattle.sz_spec.specs.Shapes.{output_extent}
use Rattle.sz_spec.specs.Lineage.{related}

-- the lineage of output cell o: of each input the cells to which it is related, by their row-major
-- indexes
abbrev pub lineage_of : Op → List Grid → Cell → List (List ℕ)
lineage_of op inputs o =
    map (λ i. (cells_where (input_at inputs i).extent (related op inputs i o)).indexes)
    (range_with_len 0 (length inputs))

-- no cell of any input
abbrev pub is_nothing : List (List ℕ) → Bool
is_nothing sets = list_all (λ (set : List ℕ). length set == 0) sets

-- two lists of numbers, and two lists of such lists, are one
abbrev pub same_numbers : List ℕ → List ℕ → Bool
same_numbers [] [] = true
same_numbers (a ∷ rest) (b ∷ more) = (a == b) && same_numbers rest more
same_numbers _ _ = false

abbrev pub same_sets : List (List ℕ) → List (List ℕ) → Bool
same_sets [] [] = true
same_sets (a ∷ rest) (b ∷ more) = same_numbers a b && same_sets rest more
same_sets _ _ = false

-- how many different ones a list has: one that comes again later is not counted
abbrev pub different : List (List (List ℕ)) → ℕ
different [] = 0
different (a ∷ rest) =
    if list_any (same_sets a) rest then different rest else 1 + different rest

-- the lineages of all output cells, but those of no cell
abbrev pub lineages_of : Op → List Grid → List (List (List ℕ))
lineages_of op inputs = let e = output_extent op (extents_of inputs) in
    filter (λ sets. not (is_nothing sets))
    (map (λ k. lineage_of op inputs (cell_of e k)) (range_with_len 0 (size_of e)))

-- how many different lineages the output's cells have, one of no cell not counted
abbrev pub kinds_of : Op → List Grid → ℕ
kinds_of op inputs = different (lineages_of op inputs)

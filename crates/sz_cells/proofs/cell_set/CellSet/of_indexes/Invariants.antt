-- The runs so far cover the indexes so far, and the rest rises behind them.
use Rattle.std.proofs.Common.{◌≡◌, ℕ, ◌≤◌, ◌==◌, take, drop}
use Rattle.std.specs.List.{All, list_any}
use Rattle.sz_cells.specs.Extent.{size_of}
use Rattle.sz_cells.specs.Runs.{covers, AreRunsFrom}
use Rattle.sz_cells.specs.Rising.{AreRising}
use Rattle.sz_cells.proofs.cell_set.CellSet.of_indexes.Given as goal

-- the runs cover the indexes so far, and all begin by a number from which the rest rises
abbrev pub invariant-loop-index : goal.invariant-loop-index
invariant-loop-index l =
    AreRunsFrom 0 (size_of l.fn.shape) l.runs.items
    × ((k : ℕ) → covers l.runs.items k ≡ list_any (λ x. x == k) (take l.index-index l.indexes))
    × ((next : ℕ) × All (λ r. r.first ≤ next) l.runs.items × AreRising next (size_of l.fn.shape)
    (drop l.index-index l.indexes))

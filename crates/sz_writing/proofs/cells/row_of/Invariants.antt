-- The values so far are those of the cells before the ones that are left.
use Rattle.std.proofs.Common.{[], ◌∷◌, drop}
use Rattle.sz_script.specs.Layers.{is_value, value_of}
use Rattle.sz_writing.specs.Written.{value_long}
use Rattle.sz_writing.proofs.Walks.{IsWrittenUpTo}
use Rattle.sz_writing.proofs.cells.row_of.Given as goal

abbrev pub invariant-loop-cell : goal.invariant-loop-cell
invariant-loop-cell l =
    IsWrittenUpTo is_value (λ d. value_of d ∷ []) 0 value_long 1 l.items.items l.cell-index (drop l.cell-index l.cells)
    l.cells

-- The indexes so far are those of the cells so far.
use Rattle.std.proofs.Common.{◌≡◌, map, take}
use Rattle.sz_cells.specs.Extent.{index_of}
use Rattle.sz_cells.proofs.spelling.indexes_named.Given as goal

-- the indexes so far are those of the cells so far
abbrev pub invariant-loop-cell : goal.invariant-loop-cell
invariant-loop-cell l = l.indexes.items ≡ map (index_of l.shape) (take l.cell-index l.cells)

-- So many runs of either side were merged; each turn takes one.
use Rattle.std.proofs.Common.{◌+◌, ◌-◌, length}
use Rattle.sz_cells.specs.Extent.{size_of}
use Rattle.sz_cells.proofs.Merging.{Merged}
use Rattle.sz_cells.proofs.cell_set.CellSet.union.Given as goal

abbrev pub invariant-loop-from_left : goal.invariant-loop-from_left
invariant-loop-from_left l = Merged (size_of l.fn.self.extent) l.left l.right l.runs.items l.from_left l.from_right

-- how many runs are left
abbrev pub decreases-loop-from_left : goal.decreases-loop-from_left
decreases-loop-from_left l = (length l.left - l.from_left) + (length l.right - l.from_right)

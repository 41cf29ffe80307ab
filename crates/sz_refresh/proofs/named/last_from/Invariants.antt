-- The greatest index so far is one of the shape.
use Rattle.std.proofs.Common.{◌-◌, ◌<◌, ◌≤◌}
use Rattle.sz_cells.specs.Extent.{size_of}
use Rattle.sz_refresh.proofs.named.last_from.Given as goal

abbrev pub invariant-loop-last : goal.invariant-loop-last
invariant-loop-last l = (l.fn.index ≤ l.last) × (l.last < size_of l.set.extent)

abbrev pub decreases-loop-last : goal.decreases-loop-last
decreases-loop-last l = size_of l.set.extent - l.last

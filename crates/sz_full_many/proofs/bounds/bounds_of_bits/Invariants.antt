-- The rectangle is round each cell whose number is below the start.
use Rattle.std.proofs.Common.{◌≡◌, ◌≤◌, ◌-◌}
use Rattle.sz_cells.specs.Extent.{size_of}
use Rattle.sz_full_many.proofs.Rounded.{IsRoundBelow}
use Rattle.sz_full_many.proofs.bounds.bounds_of_bits.Given as goal

abbrev pub invariant-loop-start : goal.invariant-loop-start
invariant-loop-start l = record {
  shape : l.shape ≡ l.bits.extent;
  all : l.end ≡ size_of l.bits.extent;
  below : l.start ≤ size_of l.bits.extent;
  round : IsRoundBelow l.bits l.start l.bounds;
}

abbrev pub decreases-loop-start : goal.decreases-loop-start
decreases-loop-start l = l.end - l.start

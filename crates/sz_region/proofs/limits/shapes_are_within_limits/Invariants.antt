-- The shapes before this one are right.
use Rattle.std.proofs.Common.{◌≡◌, true, take}
use Rattle.std.specs.List.{All}
use Rattle.sz_cells.specs.Extent.{is_extent}
use Rattle.sz_region.proofs.limits.shapes_are_within_limits.Given as goal

abbrev pub invariant-loop-shape : goal.invariant-loop-shape
invariant-loop-shape l = All (λ e. is_extent e ≡ true) (take l.shape-index l.ins)

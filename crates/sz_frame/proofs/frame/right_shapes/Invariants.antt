-- The shapes before this one are right.
use Rattle.std.proofs.Common.{◌≡◌, ℕ, ◌<◌, true, get_or, length}
use Rattle.sz_cells.specs.Extent.{is_extent}
use Rattle.sz_spec.specs.Values.{no_extent}
use Rattle.sz_frame.proofs.frame.right_shapes.Given as goal

abbrev pub invariant-loop-shape : goal.invariant-loop-shape
invariant-loop-shape l =
    (l.shape-items ≡ l.at.ins) × (l.shape-index-end ≡ length l.at.ins)
    × ((k : ℕ) → k < l.shape-index → is_extent (get_or l.shape-items k no_extent) ≡ true)

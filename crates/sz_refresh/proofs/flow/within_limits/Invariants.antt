-- The arrays before this one have right shapes.
use Rattle.std.proofs.Common.{◌≡◌, ℕ, ◌<◌, true, map}
use Rattle.std.specs.Arc.{arc_value}
use Rattle.sz_cells.specs.Extent.{is_extent}
use Rattle.sz_spec.specs.Values.{extent_at, extents_of}
use Rattle.sz_refresh.proofs.flow.within_limits.Given as goal

abbrev pub invariant-loop-array : goal.invariant-loop-array
invariant-loop-array l =
    (k : ℕ) → k < l.array-index → is_extent (extent_at (extents_of (map (λ a. arc_value a) l.base)) k) ≡ true

-- The key idea: the span only grows, so it comes to the greatest one, and a level without boxes covers no rectangles.
use Rattle.std.proofs.Common.{◌+◌, ◌-◌, ◌<◌, [], All}
use Rattle.sz_rtree.specs.Levels.{Covers}
use Rattle.sz_rtree.proofs.levels.empty_levels.Given as goal

abbrev pub invariant-loop-span : goal.invariant-loop-span
invariant-loop-span l = (0 < l.span) × (All (Covers []) l.levels.items)

abbrev pub decreases-loop-span : goal.decreases-loop-span
decreases-loop-span l = 1073741824 + 1 - l.span

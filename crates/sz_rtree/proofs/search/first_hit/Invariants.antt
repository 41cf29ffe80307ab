-- The key idea: nothing overlaps from the start up to the number that has been reached, at whatever height the
-- search is.
use Rattle.std.proofs.Common.{length, ◌-◌, ◌≤◌, ◌+◌, ◌*◌}
use Rattle.sz_rtree.specs.Levels.{MissesUpTo}
use Rattle.sz_rtree.proofs.search.first_hit.Given as goal

abbrev pub invariant-loop-number : goal.invariant-loop-number
invariant-loop-number l = record {
  low : l.from ≤ l.number;
  high : l.height ≤ length l.levels;
  missed : MissesUpTo l.rectangles l.bounds l.from l.number;
}

-- a step goes on to a later number, at whatever height, or stays and goes down a level
abbrev pub decreases-loop-number : goal.decreases-loop-number
decreases-loop-number l = (length l.rectangles - l.number) * (length l.levels + 1) + l.height

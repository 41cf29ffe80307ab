-- Each cell widens the bounds just so far that they have it.
use Rattle.sz_cells.proofs.LawsOfSets.{bounds-have, bounds-smallest, bounds-none}
use Rattle.sz_cells.proofs.laws.bounds_are_smallest.Goals as goal

pub returns : goal.returns
returns c = record { cells = bounds-have; smallest = bounds-smallest; none = bounds-none }

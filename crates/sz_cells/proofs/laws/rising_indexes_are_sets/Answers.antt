-- Rising indexes are the filter of the range by the test that finds them.
use Rattle.sz_cells.proofs.LawsOfSets.{rising-sets, sets-rising}
use Rattle.sz_cells.proofs.laws.rising_indexes_are_sets.Goals as goal

pub returns : goal.returns
returns c = record { sets = rising-sets; rising = sets-rising }

-- A set's indexes rise, so it is the set of its cells.
use Rattle.sz_cells.proofs.LawsOfSets.{rising-sets}
use Rattle.sz_cells.proofs.laws.a_set_is_its_cells.Goals as goal

pub returns-clause-cells : goal.returns-clause-cells
returns-clause-cells c = rising-sets c.args.set.now c.shape.ensures.rising

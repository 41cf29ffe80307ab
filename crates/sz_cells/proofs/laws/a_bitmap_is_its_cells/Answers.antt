-- A bitmap's indexes rise, so it is the set of its cells.
use Rattle.sz_cells.proofs.LawsOfSets.{rising-sets}
use Rattle.sz_cells.proofs.laws.a_bitmap_is_its_cells.Goals as goal

pub returns-clause-cells : goal.returns-clause-cells
returns-clause-cells c = rising-sets c.args.bits.now c.shape.ensures.rising

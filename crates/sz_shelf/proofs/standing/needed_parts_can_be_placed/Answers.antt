use Rattle.sz_shelf.proofs.Fitting.{fits-needed, needed-placed}
use Rattle.sz_shelf.proofs.standing.needed_parts_can_be_placed.Goals as goal

pub returns-clause-fitting : goal.returns-clause-fitting
returns-clause-fitting c = fits-needed

pub returns-clause-placed : goal.returns-clause-placed
returns-clause-placed c = needed-placed

-- Each clause is a lemma of the definitions.
use Rattle.sz_support.proofs.MatterConvolve.{convolved-matter}
use Rattle.sz_support.proofs.MatterOnlyThere.{convolved-only_there}
use Rattle.sz_support.proofs.convolved_cells_matter.Goals as goal

pub returns-clause-there : goal.returns-clause-there
returns-clause-there c = convolved-matter

pub returns-clause-only : goal.returns-clause-only
returns-clause-only c = convolved-only_there

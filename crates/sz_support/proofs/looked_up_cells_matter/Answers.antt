-- Each clause is a lemma of the definitions.
use Rattle.sz_support.proofs.MatterLookup.{matched-matter, matching-matter}
use Rattle.sz_support.proofs.MatterOnlyThere.{naming-matter}
use Rattle.sz_support.proofs.looked_up_cells_matter.Goals as goal

pub returns-clause-matched : goal.returns-clause-matched
returns-clause-matched c = matched-matter

pub returns-clause-matching : goal.returns-clause-matching
returns-clause-matching c = matching-matter

pub returns-clause-naming : goal.returns-clause-naming
returns-clause-naming c = naming-matter

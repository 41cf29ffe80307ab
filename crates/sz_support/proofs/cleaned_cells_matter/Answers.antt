-- Each clause is a lemma of the definitions.
use Rattle.sz_support.proofs.MatterClean.{own_clean-matter, round_hot-matter}
use Rattle.sz_support.proofs.cleaned_cells_matter.Goals as goal

pub returns-clause-own : goal.returns-clause-own
returns-clause-own c = own_clean-matter

pub returns-clause-round : goal.returns-clause-round
returns-clause-round c = round_hot-matter

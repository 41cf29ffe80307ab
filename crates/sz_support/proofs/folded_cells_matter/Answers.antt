-- Each clause is a lemma of the definitions.
use Rattle.sz_support.proofs.MatterFolds.{counts-matter, counts-of_layers_matter, sums-matter}
use Rattle.sz_support.proofs.MatterFolds.{sums-of_layers_matter}
use Rattle.sz_support.proofs.MatterOnlyThere.{sums-only_there, sums-of_layers_only_there}
use Rattle.sz_support.proofs.folded_cells_matter.Goals as goal

pub returns-clause-count : goal.returns-clause-count
returns-clause-count c = counts-matter

pub returns-clause-count_layers : goal.returns-clause-count_layers
returns-clause-count_layers c = counts-of_layers_matter

pub returns-clause-sum : goal.returns-clause-sum
returns-clause-sum c = sums-matter

pub returns-clause-sum_layers : goal.returns-clause-sum_layers
returns-clause-sum_layers c = sums-of_layers_matter

pub returns-clause-sum_only : goal.returns-clause-sum_only
returns-clause-sum_only c = sums-only_there

pub returns-clause-sum_layers_only : goal.returns-clause-sum_layers_only
returns-clause-sum_layers_only c = sums-of_layers_only_there

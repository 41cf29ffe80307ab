-- Each clause is a lemma of the definitions.
use Rattle.sz_support.proofs.OneOperator.{related-supports, supports-related, rim-supports}
use Rattle.sz_support.proofs.OneOperator.{low-supports}
use Rattle.sz_support.proofs.supporting_cells_are_the_related_ones_and_rims.Goals as goal

pub returns-clause-related : goal.returns-clause-related
returns-clause-related c = related-supports

pub returns-clause-relation : goal.returns-clause-relation
returns-clause-relation c = supports-related

pub returns-clause-rim : goal.returns-clause-rim
returns-clause-rim c = rim-supports

pub returns-clause-low : goal.returns-clause-low
returns-clause-low c = low-supports

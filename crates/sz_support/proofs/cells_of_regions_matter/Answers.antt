-- Each clause is a lemma of the definitions.
use Rattle.sz_support.proofs.MatterRegions.{own-matter, rim-matter}
use Rattle.sz_support.proofs.MatterPassages.{regions-first, inner-matter, rim_exactly-matter}
use Rattle.sz_support.proofs.cells_of_regions_matter.Goals as goal

pub returns-clause-own : goal.returns-clause-own
returns-clause-own c = own-matter

pub returns-clause-before : goal.returns-clause-before
returns-clause-before c = rim-matter

pub returns-clause-first : goal.returns-clause-first
returns-clause-first c = regions-first

pub returns-clause-inner : goal.returns-clause-inner
returns-clause-inner c = inner-matter

pub returns-clause-rim : goal.returns-clause-rim
returns-clause-rim c = rim_exactly-matter

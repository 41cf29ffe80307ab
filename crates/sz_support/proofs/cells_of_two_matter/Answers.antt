-- Each clause is a lemma of the definitions.
use Rattle.sz_support.proofs.MatterTwo.{added-matter, subtracted-matter, multiplied-matter}
use Rattle.sz_support.proofs.MatterTwo.{lesser-matter, greater-matter}
use Rattle.sz_support.proofs.MatterOnlyThere.{multiplied-present, paired-only_there}
use Rattle.sz_support.proofs.cells_of_two_matter.Goals as goal

pub returns-clause-add : goal.returns-clause-add
returns-clause-add c = added-matter

pub returns-clause-sub : goal.returns-clause-sub
returns-clause-sub c = subtracted-matter

pub returns-clause-mul : goal.returns-clause-mul
returns-clause-mul c = multiplied-matter

pub returns-clause-min : goal.returns-clause-min
returns-clause-min c = lesser-matter

pub returns-clause-max : goal.returns-clause-max
returns-clause-max c = greater-matter

pub returns-clause-mul_presence : goal.returns-clause-mul_presence
returns-clause-mul_presence c = multiplied-present

pub returns-clause-only : goal.returns-clause-only
returns-clause-only c = paired-only_there

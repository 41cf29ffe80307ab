-- Each clause is a lemma of the definitions.
use Rattle.sz_spec.proofs.Ways.{listed-is_in, way-listed, way-first}
use Rattle.sz_spec.proofs.laws.ways_are_the_first_listed.Goals as goal

pub returns-clause-listed : goal.returns-clause-listed
returns-clause-listed c = listed-is_in

pub returns-clause-way : goal.returns-clause-way
returns-clause-way c = way-listed

pub returns-clause-first : goal.returns-clause-first
returns-clause-first c = way-first

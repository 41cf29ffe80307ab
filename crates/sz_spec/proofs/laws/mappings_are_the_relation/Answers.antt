-- Each clause is a lemma of the definitions.
use Rattle.sz_spec.proofs.PayloadLineage.{related-inputs, related-mapped}
use Rattle.sz_spec.proofs.laws.mappings_are_the_relation.Goals as goal

pub returns-clause-inputs : goal.returns-clause-inputs
returns-clause-inputs c = related-inputs

pub returns-clause-mapped : goal.returns-clause-mapped
returns-clause-mapped c = related-mapped

-- Each clause is a lemma of the definitions.
use Rattle.sz_spec.proofs.Dependence.{value-depends, relation-depends}
use Rattle.sz_spec.proofs.Dependence.{value-depends_either, relation-depends_either}
use Rattle.sz_spec.proofs.laws.values_depend_on_related_cells.Goals as goal

pub returns-clause-value : goal.returns-clause-value
returns-clause-value c = value-depends

pub returns-clause-relation : goal.returns-clause-relation
returns-clause-relation c = relation-depends

pub returns-clause-value_in_either : goal.returns-clause-value_in_either
returns-clause-value_in_either c = value-depends_either

pub returns-clause-relation_in_either : goal.returns-clause-relation_in_either
returns-clause-relation_in_either c = relation-depends_either

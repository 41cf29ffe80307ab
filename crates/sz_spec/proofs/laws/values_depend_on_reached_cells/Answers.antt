-- Each clause is a lemma of the definitions.
use Rattle.sz_spec.proofs.FlowDependence.{value-reached, value-reached_in_either}
use Rattle.sz_spec.proofs.laws.values_depend_on_reached_cells.Goals as goal

pub returns-clause-reached : goal.returns-clause-reached
returns-clause-reached c = value-reached

pub returns-clause-in_either : goal.returns-clause-in_either
returns-clause-in_either c = value-reached_in_either

-- Each clause is a lemma of the definitions.
use Rattle.sz_spec.proofs.Components.{component-closed, component-whole, component-same}
use Rattle.sz_spec.proofs.laws.components_are_closed.Goals as goal

pub returns-clause-closed : goal.returns-clause-closed
returns-clause-closed c = component-closed

pub returns-clause-whole : goal.returns-clause-whole
returns-clause-whole c = component-whole

pub returns-clause-one : goal.returns-clause-one
returns-clause-one c = component-same

-- Each clause is a lemma of the definitions.
use Rattle.sz_spec.proofs.Components.{label-low, label-high}
use Rattle.sz_spec.proofs.laws.regions_are_labelled_by_their_least.Goals as goal

pub returns-clause-other : goal.returns-clause-other
returns-clause-other c = label-low

pub returns-clause-high : goal.returns-clause-high
returns-clause-high c = label-high

-- Each clause is a lemma of the definitions.
use Rattle.sz_spec.proofs.PayloadLineage.{payload-lawful, payload-stands, default-related}
use Rattle.sz_spec.proofs.laws.payloads_are_the_relation.Goals as goal

pub returns-clause-lawful : goal.returns-clause-lawful
returns-clause-lawful c = payload-lawful

pub returns-clause-stands : goal.returns-clause-stands
returns-clause-stands c = payload-stands

pub returns-clause-default : goal.returns-clause-default
returns-clause-default c = default-related

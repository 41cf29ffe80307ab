-- Each clause is a lemma of the definitions.
use Rattle.sz_catalogue.proofs.Refusals.{refused-nothing, others-taken}
use Rattle.sz_catalogue.proofs.laws.refused_commands_change_nothing.Goals as goal

pub returns-clause-refused : goal.returns-clause-refused
returns-clause-refused c = refused-nothing

pub returns-clause-taken : goal.returns-clause-taken
returns-clause-taken c = others-taken

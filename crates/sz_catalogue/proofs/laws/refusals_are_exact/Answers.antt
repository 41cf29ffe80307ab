-- Each clause is a lemma of the definitions.
use Rattle.sz_catalogue.proofs.Refusals.{refusals-first, first-refuses, taken-break_none}
use Rattle.sz_catalogue.proofs.laws.refusals_are_exact.Goals as goal

pub returns-clause-first : goal.returns-clause-first
returns-clause-first c = refusals-first

pub returns-clause-refuse : goal.returns-clause-refuse
returns-clause-refuse c = first-refuses

pub returns-clause-taken : goal.returns-clause-taken
returns-clause-taken c = taken-break_none

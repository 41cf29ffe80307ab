-- Each clause is a lemma of the definitions.
use Rattle.sz_catalogue.proofs.Refusals.{next-new}
use Rattle.sz_catalogue.proofs.laws.next_numbers_are_new.Goals as goal

pub returns : goal.returns
returns c = next-new

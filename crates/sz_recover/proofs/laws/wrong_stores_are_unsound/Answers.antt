-- It is one of the stores that would be exact.
use Rattle.sz_recover.proofs.WrongNodes.{first-unsound}
use Rattle.sz_recover.proofs.laws.wrong_stores_are_unsound.Goals as goal

pub returns : goal.returns
returns c = first-unsound

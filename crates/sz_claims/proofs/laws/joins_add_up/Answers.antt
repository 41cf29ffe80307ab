-- The law is a lemma.
use Rattle.sz_claims.proofs.Change.{joins-add-up}
use Rattle.sz_claims.proofs.laws.joins_add_up.Goals as goal

pub returns : goal.returns
returns c = joins-add-up

-- The law is a lemma.
use Rattle.sz_claims.proofs.Change.{none-loses-free, none-wins-claimed}
use Rattle.sz_claims.proofs.laws.no_step_loses_a_free_piece.Goals as goal

pub returns-clause-lost : goal.returns-clause-lost
returns-clause-lost c = none-loses-free

pub returns-clause-won : goal.returns-clause-won
returns-clause-won c = none-wins-claimed

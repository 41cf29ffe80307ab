-- The law is a lemma.
use Rattle.sz_claims.proofs.Change.{splits-add-a-seat}
use Rattle.sz_claims.proofs.laws.splits_add_a_seat.Goals as goal

pub returns : goal.returns
returns c = splits-add-a-seat

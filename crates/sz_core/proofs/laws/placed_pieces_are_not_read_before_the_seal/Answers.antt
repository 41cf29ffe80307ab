-- The law is the lemma.
use Rattle.sz_core.proofs.Sealing.{placed_lemma}
use Rattle.sz_core.proofs.laws.placed_pieces_are_not_read_before_the_seal.Goals as goal

pub returns : goal.returns
returns c = placed_lemma

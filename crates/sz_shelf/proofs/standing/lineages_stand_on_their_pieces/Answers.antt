-- The lemma is the law.
use Rattle.sz_shelf.proofs.Stores.{made-placed}
use Rattle.sz_shelf.proofs.standing.lineages_stand_on_their_pieces.Goals as goal

pub returns : goal.returns
returns c = made-placed

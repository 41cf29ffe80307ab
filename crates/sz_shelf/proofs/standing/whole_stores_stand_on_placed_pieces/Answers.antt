-- The lemma is the law.
use Rattle.sz_shelf.proofs.Stores.{whole-placed}
use Rattle.sz_shelf.proofs.standing.whole_stores_stand_on_placed_pieces.Goals as goal

pub returns : goal.returns
returns c = whole-placed

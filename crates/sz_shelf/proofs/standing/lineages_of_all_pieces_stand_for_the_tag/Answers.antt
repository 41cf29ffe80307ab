-- The lemma is the law.
use Rattle.sz_shelf.proofs.Stores.{made-whole}
use Rattle.sz_shelf.proofs.standing.lineages_of_all_pieces_stand_for_the_tag.Goals as goal

pub returns : goal.returns
returns c = made-whole

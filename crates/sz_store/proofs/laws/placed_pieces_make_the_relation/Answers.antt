-- The lemma is the law.
use Rattle.sz_store.proofs.Lineages.{pieces-make-relation}
use Rattle.sz_store.proofs.laws.placed_pieces_make_the_relation.Goals as goal

pub returns : goal.returns
returns c = pieces-make-relation

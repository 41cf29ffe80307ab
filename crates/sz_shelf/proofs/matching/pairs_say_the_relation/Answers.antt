-- The lemma is the law.
use Rattle.sz_shelf.proofs.Pairs.{pairs-say}
use Rattle.sz_shelf.proofs.matching.pairs_say_the_relation.Goals as goal

pub returns : goal.returns
returns c = pairs-say

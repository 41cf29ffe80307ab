-- The lemma is the law.
use Rattle.sz_shelf.proofs.Stores.{strategy-stands, image-stands}
use Rattle.sz_shelf.proofs.standing.each_strategy_stands_for_the_tag.Goals as goal

pub returns-clause-relation : goal.returns-clause-relation
returns-clause-relation c = strategy-stands

pub returns-clause-image : goal.returns-clause-image
returns-clause-image c = image-stands

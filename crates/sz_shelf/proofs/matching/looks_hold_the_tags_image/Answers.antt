-- The lemmas are the laws.
use Rattle.sz_shelf.proofs.Pairs.{asks-come, looks-hold}
use Rattle.sz_shelf.proofs.matching.looks_hold_the_tags_image.Goals as goal

pub returns-clause-come : goal.returns-clause-come
returns-clause-come c = asks-come

pub returns-clause-hold : goal.returns-clause-hold
returns-clause-hold c = looks-hold

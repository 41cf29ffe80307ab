-- The law is a lemma.
use Rattle.sz_claims.proofs.Change.{looks-only-count}
use Rattle.sz_claims.proofs.laws.looks_are_only_counted.Goals as goal

pub returns : goal.returns
returns c = looks-only-count

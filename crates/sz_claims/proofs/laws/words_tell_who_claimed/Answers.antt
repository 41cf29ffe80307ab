-- The law is a lemma.
use Rattle.sz_claims.proofs.Change.{words-tell}
use Rattle.sz_claims.proofs.laws.words_tell_who_claimed.Goals as goal

pub returns : goal.returns
returns c = words-tell

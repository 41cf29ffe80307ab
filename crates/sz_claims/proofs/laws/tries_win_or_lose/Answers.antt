-- The law is a lemma.
use Rattle.sz_claims.proofs.Change.{tries-win-or-lose}
use Rattle.sz_claims.proofs.laws.tries_win_or_lose.Goals as goal

pub returns-clause-changes : goal.returns-clause-changes
returns-clause-changes c = tries-win-or-lose

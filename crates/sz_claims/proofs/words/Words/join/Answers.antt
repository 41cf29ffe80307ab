-- Key idea: the kept seat gains in each count what the spent one loses.
use Rattle.std.proofs.Common.{rules}
use Rattle.sz_claims.proofs.Steps.{joins-keep}
use Rattle.sz_claims.proofs.words.Words.join.Goals as goal

pub join_seat-requires : goal.join_seat-requires
join_seat-requires c = (search rules, search rules, search rules, search rules, joins-keep _ _ _ _ _)

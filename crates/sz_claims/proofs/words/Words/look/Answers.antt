-- Key idea: a look changes nothing that the rule speaks of.
use Rattle.std.proofs.Common.{rules}
use Rattle.sz_claims.proofs.Steps.{looks-keep}
use Rattle.sz_claims.proofs.words.Words.look.Goals as goal

pub load-requires : goal.load-requires
load-requires c = (search rules, search rules, looks-keep _ _ _ _)

-- Key idea: a view without claims adds to no count.
use Rattle.std.proofs.Common.{rules}
use Rattle.sz_claims.proofs.Steps.{splits-keep}
use Rattle.sz_claims.proofs.words.Words.split.Goals as goal

pub split_seat-requires : goal.split_seat-requires
split_seat-requires c = (search rules, search rules, splits-keep _ _ _)

-- The lemma is the law.
use Rattle.sz_merge.proofs.Told.{numbers-kept}
use Rattle.sz_merge.proofs.laws.numbers_told_are_those_kept.Goals as goal

pub returns : goal.returns
returns c = numbers-kept

-- The lemma is the law.
use Rattle.sz_merge.proofs.Told.{numbers-told}
use Rattle.sz_merge.proofs.laws.numbers_told_are_the_kinds.Goals as goal

pub returns : goal.returns
returns c = numbers-told

-- The pairs that are left become fewer.
use Rattle.std.proofs.Common.{length}
use Rattle.trials_full.proofs.many.+give_all.Given as goal

abbrev pub decreases-give_all : goal.decreases-give_all
decreases-give_all l = length l.pairs.now

-- The looks that are left become fewer.
use Rattle.std.proofs.Common.{length}
use Rattle.trials_full.proofs.many.+finds_all.Given as goal

abbrev pub decreases-finds_all : goal.decreases-finds_all
decreases-finds_all l = length l.rows.now

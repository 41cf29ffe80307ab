-- The path gets shorter.
use Rattle.std.proofs.Common.{length}
use Rattle.sz_catalogue.proofs.paths.+are_joined.Given as goal

abbrev pub decreases-are_joined : goal.decreases-are_joined
decreases-are_joined l = length l.path.now

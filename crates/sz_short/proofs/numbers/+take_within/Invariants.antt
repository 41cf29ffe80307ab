-- Each byte may have one fewer behind it.
use Rattle.sz_short.proofs.numbers.+take_within.Given as goal

abbrev pub decreases-take_within : goal.decreases-take_within
decreases-take_within l = l.more

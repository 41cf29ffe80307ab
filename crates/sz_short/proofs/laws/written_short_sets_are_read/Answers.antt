-- What is written begins there, and nothing else does.
use Rattle.sz_short.proofs.ShortRuns.{written-read}
use Rattle.sz_short.proofs.laws.written_short_sets_are_read.Goals as goal

pub returns : goal.returns
returns c = written-read

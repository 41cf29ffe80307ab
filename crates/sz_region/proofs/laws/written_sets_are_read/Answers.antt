-- The place behind what stands before is where the bytes of the set begin.
use Rattle.sz_region.proofs.Spelling.{written-read}
use Rattle.sz_region.proofs.laws.written_sets_are_read.Goals as goal

pub returns : goal.returns
returns c = written-read

-- Numbers are known by their bytes, so runs are, and so sets are.
use Rattle.sz_short.proofs.ShortRuns.{sets-one, begins-one}
use Rattle.sz_short.proofs.laws.short_bytes_are_one_set.Goals as goal

pub returns : goal.returns
returns c = record { bytes = sets-one; place = begins-one }

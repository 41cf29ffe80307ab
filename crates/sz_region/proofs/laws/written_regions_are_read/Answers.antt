-- The lemmas are the laws.
use Rattle.sz_region.proofs.FullStores.{regions-one, regions-read}
use Rattle.sz_region.proofs.laws.written_regions_are_read.Goals as goal

pub returns-clause-one : goal.returns-clause-one
returns-clause-one c = regions-one

pub returns-clause-read : goal.returns-clause-read
returns-clause-read c = regions-read

-- The lemmas are the laws.
use Rattle.sz_region.proofs.PayStores.{entries-one, entries-read}
use Rattle.sz_region.proofs.laws.written_entries_are_read.Goals as goal

pub returns-clause-one : goal.returns-clause-one
returns-clause-one c = entries-one

pub returns-clause-read : goal.returns-clause-read
returns-clause-read c = entries-read

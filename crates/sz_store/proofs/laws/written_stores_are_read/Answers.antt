-- The lemmas are the laws.
use Rattle.sz_store.proofs.Reading.{stores-one, stores-read}
use Rattle.sz_store.proofs.laws.written_stores_are_read.Goals as goal

pub returns-clause-one : goal.returns-clause-one
returns-clause-one c = stores-one

pub returns-clause-read : goal.returns-clause-read
returns-clause-read c = stores-read

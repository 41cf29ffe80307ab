-- A group at a place is a fact of the bytes, and acts in one way at most.
use Rattle.sz_recover.proofs.OneReading.{made-one, made-whole, bad-one}
use Rattle.sz_recover.proofs.laws.logs_are_read_in_one_way.Goals as goal

pub returns-clause-made : goal.returns-clause-made
returns-clause-made c = made-one

pub returns-clause-whole : goal.returns-clause-whole
returns-clause-whole c = made-whole

pub returns-clause-bad : goal.returns-clause-bad
returns-clause-bad c = bad-one

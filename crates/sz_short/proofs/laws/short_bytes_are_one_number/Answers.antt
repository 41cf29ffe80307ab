-- The first byte says whether there is a rest.
use Rattle.sz_short.proofs.ShortNumbers.{numbers-one}
use Rattle.sz_short.proofs.laws.short_bytes_are_one_number.Goals as goal

pub returns : goal.returns
returns c = numbers-one

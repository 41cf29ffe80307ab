-- The digits of a number read back, by the library.
use Rattle.std.proofs.lemmas.Fmt.{decimal_is_IsNumeral}
use Rattle.sz_catalogue.proofs.laws.numbers_read_back.Goals as goal

pub returns : goal.returns
returns c = decimal_is_IsNumeral

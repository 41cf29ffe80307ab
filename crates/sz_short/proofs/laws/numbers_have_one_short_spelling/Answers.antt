-- Byte by byte, in both directions.
use Rattle.sz_short.proofs.ShortNumbers.{numbers-spelled, spellings-numbers}
use Rattle.sz_short.proofs.laws.numbers_have_one_short_spelling.Goals as goal

pub returns : goal.returns
returns c = record { spelled = numbers-spelled; only = spellings-numbers }

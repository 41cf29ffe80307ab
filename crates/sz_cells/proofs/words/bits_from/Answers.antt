-- In the word of the index the bits before its place are cut.
use Rattle.sz_cells.proofs.WordBits.{bits-from}
use Rattle.sz_cells.proofs.words.bits_from.Goals as goal

pub returns-then-word-from : goal.returns-then-word-from
returns-then-word-from c = bits-from c.args.bits c.args.word c.args.from c.if-word-from.true

-- No bit from the index to the word is 1.
use Rattle.std.proofs.Common.{◌*◌}
use Rattle.sz_cells.specs.Words.{has_bit}
use Rattle.sz_cells.proofs.WordBits.{NonePasses}
use Rattle.sz_cells.proofs.words.next_one.Given as goal

abbrev pub invariant-loop-word : goal.invariant-loop-word
invariant-loop-word l = NonePasses (has_bit l.words) l.from (l.word * 64)

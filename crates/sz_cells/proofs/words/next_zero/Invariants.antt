-- No bit from the index to the word is 0.
use Rattle.std.proofs.Common.{◌*◌, not}
use Rattle.sz_cells.specs.Words.{has_bit}
use Rattle.sz_cells.proofs.WordBits.{NonePasses}
use Rattle.sz_cells.proofs.words.next_zero.Given as goal

abbrev pub invariant-loop-word : goal.invariant-loop-word
invariant-loop-word l = NonePasses (λ k. not (has_bit l.words k)) l.from (l.word * 64)

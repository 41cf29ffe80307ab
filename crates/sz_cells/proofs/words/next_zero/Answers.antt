-- The search for a bit that is 0 is the search for one that is 1 in the words turned.
use Rattle.std.proofs.Common.{not, arith}
use Rattle.std.proofs.lemmas.Bool.{not-true, not-false}
use Rattle.sz_cells.specs.Words.{has_bit}
use Rattle.sz_cells.proofs.WordBits.{bits-left_turned, past-word, in-word, first-after}
use Rattle.sz_cells.proofs.words.next_zero.Goals as goal

pub returns-then-bits-ne0 : goal.returns-then-bits-ne0
returns-then-bits-ne0 c =
    let words = c.args.words.now in
    let left = bits-left_turned words c.bits_from-bits.result c.loop-word.word c.args.from
    (c.type_inv.words c.loop-word.word).fits c.bits_from-bits.ensures in
    let first = in-word c.bits_from-bits.result (λ k. not (has_bit words k)) c.loop-word.word c.args.from left
    (omega arith) c.bits_from-bits.type_inv c.loop-word.invariant in
    record {
      later = first-after (has_bit words) c.args.from _ first.1 c.requires.one;
      bounded = omega (arith, first.0);
      ones = λ k low high. not-false (has_bit words k) (first.1.before k low high);
      zero = λ _. not-true (has_bit words _) first.1.passes;
    }

pub loop-word-preserved : goal.loop-word-preserved
loop-word-preserved c =
    let words = c.args.words.now in
    let left = bits-left_turned words c.bits_from-bits.result c.loop-word.word c.args.from
    (c.type_inv.words c.loop-word.word).fits c.bits_from-bits.ensures in
    past-word c.bits_from-bits.result (λ k. not (has_bit words k)) c.loop-word.word c.args.from left
    c.if-bits-ne0.false c.loop-word.invariant

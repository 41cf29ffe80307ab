-- In the first word that has a bit left the lowest one is the answer.
use Rattle.std.proofs.Common.{◌-◌, ◌*◌, arith, sym}
use Rattle.sz_cells.specs.Words.{has_bit}
use Rattle.sz_cells.proofs.WordBits.{bits-left, past-word, in-word, find-first, find-none}
use Rattle.sz_cells.proofs.words.next_one.Goals as goal

pub returns-then-bits-ne0 : goal.returns-then-bits-ne0
returns-then-bits-ne0 c =
    let test = has_bit c.args.words.now in
    let left = bits-left c.args.words.now c.bits_from-bits.result c.loop-word.word c.args.from c.bits_from-bits.ensures
    in
    let first = in-word c.bits_from-bits.result test c.loop-word.word c.args.from left (omega arith)
    c.bits_from-bits.type_inv c.loop-word.invariant in
    sym (find-first test (c.args.end * 64 - c.args.from) c.args.from _ first.1 (omega (arith, first.0, first.1.low)))

pub loop-word-preserved : goal.loop-word-preserved
loop-word-preserved c =
    let left = bits-left c.args.words.now c.bits_from-bits.result c.loop-word.word c.args.from c.bits_from-bits.ensures
    in
    past-word c.bits_from-bits.result (has_bit c.args.words.now) c.loop-word.word c.args.from left c.if-bits-ne0.false
    c.loop-word.invariant

pub returns : goal.returns
returns c =
    sym
    (find-none (has_bit c.args.words.now) (c.args.end * 64 - c.args.from) c.args.from
    (λ k low high. c.loop-word.invariant k low (omega arith)))

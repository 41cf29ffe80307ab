-- No byte is a payload, and bytes are one where they are those of a set.
use Rattle.std.proofs.Common.{◌<◌, length, sym, ap, ◌∙◌, arith}
use Rattle.sz_cells.specs.SetWords.{is_set_word}
use Rattle.sz_spec.specs.Values.{extent_at}
use Rattle.sz_payload.proofs.Operators.{regions-payload, regions-arity, none-or, some-bytes, no-bytes, none-lawful}
use Rattle.sz_payload.proofs.Operators.{first-shape}
use Rattle.sz_payload.proofs.regions.is_payload.Goals as goal

pub returns-then-is_empty : goal.returns-then-is_empty
returns-then-is_empty c =
    let s = c.args.at.now in
    let none = no-bytes c.args.bytes.now (sym c.is_empty.ensures ∙ c.if-is_empty.true) in
    sym
    (regions-payload s.op s.ins c.args.bytes.now c.requires
    ∙ none-lawful (is_set_word (extent_at s.ins 0)) c.args.bytes.now none)

pub returns-else-is_empty : goal.returns-else-is_empty
returns-else-is_empty c =
    let s = c.args.at.now in
    let p = c.args.bytes.now in
    let some = some-bytes p (sym c.is_empty.ensures ∙ c.if-is_empty.false) in
    let inputs : 0 < length s.ins = omega (arith, regions-arity s.op c.requires, c.ins-ins.ensures.arity) in
    c.is_word.ensures
    ∙ ap (λ e. is_set_word e p) (first-shape s.ins c.ins-ins.result.now c.index-ins-0.result c.ins-ins.ensures.value
    inputs c.index-ins-0.is)
    ∙ sym (regions-payload s.op s.ins p c.requires ∙ none-or (is_set_word (extent_at s.ins 0)) p some)

-- Bytes stand for the set that they spell.
use Rattle.std.proofs.Common.{sym, ◌∙◌}
use Rattle.sz_cells.specs.Cells.{has}
use Rattle.sz_cells.specs.SetWords.{set_spelled}
use Rattle.sz_spec.specs.Payloads.{mapped_by_payload}
use Rattle.sz_frame.proofs.Added.{with-ext}
use Rattle.sz_payload.proofs.Operators.{regions-first, regions-set, regions-word, near-first, some-bytes}
use Rattle.sz_payload.proofs.regions.map_p.Goals as goal

pub returns-else-is_empty-clause-added : goal.returns-else-is_empty-clause-added
returns-else-is_empty-clause-added c = λ lawful.
    let s = c.args.at.now in
    let to = c.args.to.now in
    let p = c.args.payload.now in
    let some = some-bytes p (sym c.is_empty.ensures ∙ c.if-is_empty.false) in
    let first = regions-first s.op s.ins c.args.input c.requires.op c.ins.ensures.arity c.requires.input in
    let same = c.requires.to ∙ near-first s.ins c.args.input first in
    let word = regions-word s.op s.ins p to.extent c.requires.op some same lawful in
    c.add_spelled.ensures.added word
    ∙ with-ext to (has (set_spelled to.extent p)) (λ x. mapped_by_payload s.op s.ins p c.args.input c.args.out x)
    (λ x held. sym (regions-set s.op s.ins p to.extent c.args.input c.args.out x c.requires.op first some same))

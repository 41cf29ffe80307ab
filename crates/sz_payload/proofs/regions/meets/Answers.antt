-- No byte stands for the cell alone, and bytes for the set that they spell.
use Rattle.std.proofs.Common.{refl, sym, ◌∙◌}
use Rattle.sz_cells.specs.Cells.{has, is_same}
use Rattle.sz_cells.specs.SetWords.{set_spelled}
use Rattle.sz_spec.specs.Payloads.{mapped_by_payload}
use Rattle.sz_frame.proofs.Added.{own-at}
use Rattle.sz_frame.proofs.OneCell.{has-one}
use Rattle.sz_frame.proofs.Passing.{met-ext}
use Rattle.sz_payload.proofs.Operators.{regions-first, regions-set, regions-word, regions-alone, near-first}
use Rattle.sz_payload.proofs.Operators.{some-bytes, no-bytes}
use Rattle.sz_payload.proofs.regions.meets.Goals as goal

pub returns-then-is_empty : goal.returns-then-is_empty
returns-then-is_empty c =
    let s = c.args.at.now in
    let from = c.args.from.now in
    let p = c.args.payload.now in
    let none = no-bytes p (sym c.is_empty.ensures ∙ c.if-is_empty.true) in
    let first = regions-first s.op s.ins c.args.input c.requires.op c.ins.ensures.arity c.requires.input in
    c.has.ensures
    ∙ has-one from c.args.out (own-at from from.extent refl c.shape.ensures.rising)
    ∙ met-ext from (is_same c.args.out) (λ x. mapped_by_payload s.op s.ins p c.args.input c.args.out x)
    (λ x. sym (regions-alone s.op s.ins p c.args.input c.args.out x c.requires.op first none))

pub spelled_meets-requires : goal.spelled_meets-requires
spelled_meets-requires c =
    let s = c.args.at.now in
    let p = c.args.payload.now in
    let some = some-bytes p (sym c.is_empty.ensures ∙ c.if-is_empty.false) in
    let first = regions-first s.op s.ins c.args.input c.requires.op c.ins.ensures.arity c.requires.input in
    regions-word s.op s.ins p c.args.from.now.extent c.requires.op some
    (c.requires.from ∙ near-first s.ins c.args.input first) c.requires.payload

pub returns-else-is_empty : goal.returns-else-is_empty
returns-else-is_empty c =
    let s = c.args.at.now in
    let from = c.args.from.now in
    let p = c.args.payload.now in
    let some = some-bytes p (sym c.is_empty.ensures ∙ c.if-is_empty.false) in
    let first = regions-first s.op s.ins c.args.input c.requires.op c.ins.ensures.arity c.requires.input in
    c.spelled_meets.ensures
    ∙ met-ext from (has (set_spelled from.extent p)) (λ x. mapped_by_payload s.op s.ins p c.args.input c.args.out x)
    (λ x. sym (regions-set s.op s.ins p from.extent c.args.input c.args.out x c.requires.op first some
    (c.requires.from ∙ near-first s.ins c.args.input first)))

-- A flag other than 1 stands for the cell alone.
use Rattle.std.proofs.Common.{refl, sym, ◌∙◌}
use Rattle.sz_cells.specs.Cells.{is_same}
use Rattle.sz_spec.specs.Payloads.{mapped_by_payload}
use Rattle.sz_frame.proofs.Added.{own-at}
use Rattle.sz_frame.proofs.OneCell.{has-one}
use Rattle.sz_frame.proofs.Passing.{met-ext}
use Rattle.sz_payload.proofs.Operators.{clean-alone, clean-first}
use Rattle.sz_payload.proofs.clean.meets.Goals as goal

pub returns-else-is_hot : goal.returns-else-is_hot
returns-else-is_hot c =
    let s = c.args.at.now in
    let from = c.args.from.now in
    let p = c.args.payload.now in
    let first = clean-first s.op s.ins c.args.input c.requires.op c.ins.ensures.arity c.requires.input in
    c.has.ensures
    ∙ has-one from c.args.out (own-at from from.extent refl c.shape-shape.ensures.rising)
    ∙ met-ext from (is_same c.args.out) (λ x. mapped_by_payload s.op s.ins p c.args.input c.args.out x)
    (λ x. sym (clean-alone s.op s.ins p c.args.input c.args.out x c.requires.op first c.requires.payload
    (sym c.is_hot.ensures ∙ c.if-is_hot.false)))
